-- The way up from a context, as far as it is new: which rows it has, and what the functions that write it ask for.
-- Assumes nothing.
use Rattle.std.specs.Prelude.{ℕ, zero, suc, ◌+◌, ◌≤◌, Bool, false, cond, ◌&&◌, ◌||◌, List, eqb, length}
use Rattle.tree.specs.Tree.{parent, ancestor}
use Rattle.scan.specs.Want.{accepts}
use Rattle.scan.specs.OneRole.{Parents}
use Rattle.scan.specs.Range.{rows_in}
use Rattle.scan.specs.declared.trees.Trees.{Trees}
use Rattle.scan.specs.declared.want.NodeTest.{NodeTest}

-- row w is the row that a link names, or one of its ancestors; a link is one more than a row, or 0 for none
unfoldable pub on_path : List ℕ → ℕ → ℕ → Bool
on_path level zero w = false
on_path level (suc v) w = eqb w v || ancestor level w v

-- the rows from floor on that a link names or that are its ancestors, and that pass, ascending
unfoldable pub way_up : List ℕ → ℕ → ℕ → (ℕ → Bool) → List ℕ
way_up level floor start test = rows_in (λ w. on_path level start w && test w) floor start

-- the link at which the way up from row c starts: that of its parent, or, where own is 1, of the row itself
unfoldable pub way_start : ℕ → List ℕ → ℕ → ℕ
way_start own level c = cond (eqb own 0) (parent level c) (c + 1)

-- trees' parents, a link of a row in use, and room for the rows of its way up that fit
pub record WayIn (trees : Trees) (up : List ℕ) (test : NodeTest) (floor start : ℕ) (out : List ℕ) (written : ℕ)
    : Type 0 where
  pub parents : Parents trees.level.now trees.count up
  pub low : start ≤ trees.count
  pub in_kind : trees.count ≤ length test.kind.now
  pub in_name : trees.count ≤ length test.name.now
  pub room : written + length (way_up trees.level.now floor start (accepts test)) ≤ length out
