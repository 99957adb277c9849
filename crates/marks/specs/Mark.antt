-- What the functions that mark the rows of one context ask for and leave, for the axes whose rows do not come out in
-- order. Assumes nothing.
use Rattle.std.specs.Prelude.{ℕ, suc, ◌+◌, ◌*◌, ◌/◌, ◌<◌, ◌≤◌, ◌≡◌, Bool, true, ◌&&◌, ◌||◌, List, ltb, leb, eqb, length}
use Rattle.tree.specs.Table.{at}
use Rattle.tree.specs.Tree.{parent}
use Rattle.scan.specs.declared.trees.Trees.{Trees}
use Rattle.scan.specs.OneRole.{Contexts}
use Rattle.marks.specs.RowSet.{has, in_word, Marked}

-- row w is a child of p, at or after row a and before row e
unfoldable pub child_in : List ℕ → ℕ → ℕ → ℕ → ℕ → Bool
child_in level p a e w = eqb (parent level w) (suc p) && (leb a w && ltb w e)

-- the set with the rows that pass f
pub record Joined (f : ℕ → Bool) (old new : List ℕ) : Type 0 where
  pub rows : (w : ℕ) → w < 4096 → has new w ≡ (f w || has old w)

-- the children of p at or after a and before e are to go in; a is the first, if there are any, and if a is in, all
-- are
pub record AddsChildren (trees : Trees) (p a e : ℕ) (words : List ℕ) : Type 0 where
  pub row : p < trees.count
  pub after : p < a
  pub inside : e ≤ p + at trees.size.now p + 1
  pub child : a < e → parent trees.level.now a ≡ suc p
  pub whole : a < e → has words a ≡ true
      → (w : ℕ) → child_in trees.level.now p a e w ≡ true → has words w ≡ true

-- the word of row a: its bits are the children of p at or after a and before v, all before row e; v is the next child,
-- or past the rows below p
pub record Gathered (trees : Trees) (p a e v word : ℕ) : Type 0 where
  pub low : a ≤ v
  pub child : v ≤ p + at trees.size.now p → parent trees.level.now v ≡ suc p
  pub inside : (w : ℕ) → child_in trees.level.now p a v w ≡ true → w < e
  pub bits : (w : ℕ) → in_word (64 * (a / 64)) word w ≡ child_in trees.level.now p a v w

-- the children of p at or after a and before e, in the word of a, are to be gathered; a is the first
pub record Gathers (trees : Trees) (p a e : ℕ) : Type 0 where
  pub row : p < trees.count
  pub first : a < e
  pub child : parent trees.level.now a ≡ suc p
  pub inside : e ≤ p + at trees.size.now p + 1
  pub word : e ≤ 64 * (a / 64) + 64

-- what the context at number i reaches is to go in; what the contexts of done reach is in
pub record Turn (axis : ℕ) (trees : Trees) (cs : List ℕ) (i : ℕ) (done words : List ℕ) : Type 0 where
  pub contexts : Contexts cs trees.count
  pub index : i < length cs
  pub marked : Marked axis trees done words
