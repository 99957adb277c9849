-- A set of rows as 64 words of 64 bits, and a word that says which of them hold a row. Rows go in in any order and
-- come out ascending, each once, at a cost of the rows alone; those that fit a test are then written. Assumes nothing.
use Rattle.std.specs.Prelude.{ℕ, ◌+◌, ◌-◌, ◌/◌, ◌%◌, ◌^◌, ◌<◌, ◌≤◌, ◌≡◌, Bool, true, not, ◌&&◌, List}
use Rattle.std.specs.Prelude.{ltb, leb, eqb, length}
use Rattle.tree.specs.Table.{at}
use Rattle.tree.specs.Search.{gather}
use Rattle.scan.specs.declared.trees.Trees.{Trees}
use Rattle.scan.specs.OneRole.{any_on, Contexts, Wrote}
use Rattle.scan.specs.declared.want.NodeTest.{NodeTest}
use Rattle.scan.specs.Want.{accepts}

-- bit b of a word is set
unfoldable pub bit : ℕ → ℕ → Bool
bit word b = eqb (word / 2 ^ b % 2) 1

-- row w is in the set
unfoldable pub has : List ℕ → ℕ → Bool
has words w = bit (at words (w / 64)) (w % 64)

-- used says which words are not 0
pub record Used (words : List ℕ) (used : ℕ) : Type 0 where
  pub long : length words ≡ 64
  pub marks : (j : ℕ) → j < 64 → bit used j ≡ not (eqb (at words j) 0)

-- no row is in it
pub record Blank (words : List ℕ) : Type 0 where
  pub zero : (j : ℕ) → j < 64 → at words j ≡ 0

-- the set holds the rows in use on the axis of one of the contexts
pub record Marked (axis : ℕ) (trees : Trees) (cs words : List ℕ) : Type 0 where
  pub rows : (w : ℕ) → w < 4096 → has words w ≡ (ltb w trees.count && any_on axis trees.level.now cs w)

-- contexts in the trees and an empty set: what each function that marks an axis asks for
pub record Marks (trees : Trees) (cs words : List ℕ) : Type 0 where
  pub contexts : Contexts cs trees.count
  pub blank : Blank words

-- row w is in the word whose first row is base
unfoldable pub in_word : ℕ → ℕ → ℕ → Bool
in_word base word w = leb base w && bit word (w - base)

-- row w is in the word and fits
abbrev pub word_fits : NodeTest → ℕ → ℕ → ℕ → Bool
word_fits test base word w = in_word base word w && accepts test w

-- what taking the rows out of one word asks for: they are in the columns, and those that fit have room
pub record WordDrains (test : NodeTest) (base word : ℕ) (out : List ℕ) : Type 0 where
  pub low : base + 64 ≤ 4096
  pub in_kind : (b : ℕ) → b < 64 → bit word b ≡ true → base + b < length test.kind.now
  pub in_name : (b : ℕ) → b < 64 → bit word b ≡ true → base + b < length test.name.now
  pub room : length (gather (word_fits test base word) (base + 64)) ≤ length out

-- what taking all rows out asks for: they are rows in use, and those that fit have room
pub record Drains (test : NodeTest) (n : ℕ) (words out : List ℕ) : Type 0 where
  pub few : n ≤ 4096
  pub below : (w : ℕ) → w < 4096 → has words w ≡ true → w < n
  pub in_kind : n ≤ length test.kind.now
  pub in_name : n ≤ length test.name.now
  pub room : length (gather (λ w. has words w && accepts test w) n) ≤ length out

-- what it leaves: the rows that fit in front of out, and no row in the set
pub record Drained (test : NodeTest) (n : ℕ) (old out : List ℕ) (r : ℕ) (new out' : List ℕ) : Type 0 where
  pub wrote : Wrote (gather (λ w. has old w && accepts test w) n) out r out'
  pub blank : Blank new
