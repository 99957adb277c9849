-- What one role reaches, and what the functions that find it ask for and leave. The contexts of one role are a part of
-- the row column. That the lines of a step are these, role by role, is in lines/proofs/RunLaws.antt. Assumes nothing.
use Rattle.std.specs.Prelude.{ℕ, suc, ◌<◌, ◌≤◌, ◌≡◌, Bool, false, ◌&&◌, ◌||◌, List, [], ◌∷◌, length}
use Rattle.tree.specs.Search.{gather}
use Rattle.tree.specs.Table.{at}
use Rattle.tree.specs.Axis.{on_axis}
use Rattle.tree.specs.Tree.{parent, root}
use Rattle.tree.specs.Outcome.{overwritten}
use Rattle.scan.specs.Want.{NodeTest, accepts}
pub use Rattle.scan.specs.declared.trees.Trees.{Trees}

-- row w is on the axis of one of these contexts
unfoldable pub any_on : ℕ → List ℕ → List ℕ → ℕ → Bool
any_on axis level [] w = false
any_on axis level (c ∷ cs) w = on_axis axis level c w || any_on axis level cs w

-- the rows below n on the axis of one of the contexts that pass the test, ascending
unfoldable pub one_role : ℕ → List ℕ → ℕ → (ℕ → Bool) → List ℕ → List ℕ
one_role axis level n test cs = gather (λ w. any_on axis level cs w && test w) n

-- contexts do not fall, and are rows in use
pub record Contexts (cs : List ℕ) (n : ℕ) : Type 0 where
  pub rising : (i j : ℕ) → i < j → j < length cs → at cs i ≤ at cs j
  pub inside : (i : ℕ) → i < length cs → at cs i < n

-- the rows that the contexts of one role reach in these trees and that pass the test
abbrev pub reached : ℕ → Trees → NodeTest → List ℕ → List ℕ
reached axis trees test cs = one_role axis trees.level.now trees.count (accepts test) cs

-- one role's contexts, a kind and a name for each row, and room for what the contexts reach: what a function that finds
-- it asks for
pub record RoleIn (axis : ℕ) (trees : Trees) (test : NodeTest) (cs out : List ℕ) : Type 0 where
  pub contexts : Contexts cs trees.count
  pub in_kind : trees.count ≤ length test.kind.now
  pub in_name : trees.count ≤ length test.name.now
  pub room : length (reached axis trees test cs) ≤ length out

-- a column that held old begins with xs now, and r says how many they are
pub record Wrote (xs old : List ℕ) (r : ℕ) (new : List ℕ) : Type 0 where
  pub many : r ≡ length xs
  pub holds : new ≡ overwritten xs old

-- top holds, for each row, the root of its tree
pub record Roots (level : List ℕ) (n : ℕ) (top : List ℕ) : Type 0 where
  pub within : n ≤ length top
  pub roots : (w : ℕ) → w < n → root level w ≡ suc (at top w)

-- up holds, for each row, one more than its parent, 0 at a root
pub record Parents (level : List ℕ) (n : ℕ) (up : List ℕ) : Type 0 where
  pub within : n ≤ length up
  pub parents : (w : ℕ) → w < n → at up w ≡ parent level w
