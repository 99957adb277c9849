-- The children of a row that are written as they are met: which rows they are, and what the walk over them asks for.
-- Assumes nothing.
use Rattle.std.specs.Prelude.{ℕ, suc, ◌+◌, ◌<◌, ◌≤◌, ◌≡◌, Bool, ◌&&◌, List, eqb, length}
use Rattle.tree.specs.Table.{at}
use Rattle.tree.specs.Tree.{parent}
use Rattle.scan.specs.Want.{accepts}
use Rattle.scan.specs.Range.{rows_in}
use Rattle.scan.specs.declared.trees.Trees.{Trees}
use Rattle.scan.specs.declared.want.NodeTest.{NodeTest}

-- row w is a child of p and passes
unfoldable pub child_that : (ℕ → Bool) → List ℕ → ℕ → ℕ → Bool
child_that test level p w = eqb (parent level w) (suc p) && test w

-- row v is a child of p, or the end of its descendants
pub record ChildOrEnd (size level : List ℕ) (p v : ℕ) : Type 0 where
  pub after : p < v
  pub last : v ≤ p + at size p + 1
  pub child : v ≤ p + at size p → parent level v ≡ suc p

-- the children of p from row v on, and before row e, that fit are to be written, and have room behind those written
pub record ChildrenIn (trees : Trees) (test : NodeTest) (p v e : ℕ) (out : List ℕ) (written : ℕ) : Type 0 where
  pub row : p < trees.count
  pub from : ChildOrEnd trees.size.now trees.level.now p v
  pub to : ChildOrEnd trees.size.now trees.level.now p e
  pub order : v ≤ e
  pub in_kind : trees.count ≤ length test.kind.now
  pub in_name : trees.count ≤ length test.name.now
  pub room : written + length (rows_in (child_that (accepts test) trees.level.now p) v e) ≤ length out
