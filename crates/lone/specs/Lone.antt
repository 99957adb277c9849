-- The way up from the one context of a role, written without a set: which rows it has, and what the functions that
-- write it ask for. Assumes nothing.
use Rattle.std.specs.Prelude.{ℕ, ◌≤◌, ◌≡◌, Bool, true, ◌&&◌, ◌||◌, List, eqb, length, is_none}
use Rattle.tree.specs.Search.{gather}
use Rattle.scan.specs.OneRole.{RoleIn, Parents}
use Rattle.ways.specs.Above.{on_path}
use Rattle.scan.specs.declared.trees.Trees.{Trees}
use Rattle.scan.specs.declared.want.NodeTest.{NodeTest}
use Rattle.scan.specs.declared.want.Want.{Want}

-- the rows below n that a link names or that are its ancestors, ascending
unfoldable pub path_rows : List ℕ → ℕ → ℕ → List ℕ
path_rows level n link = gather (on_path level link) n

-- the parent is asked for, or all ancestors, with the context itself or without
unfoldable pub upward : ℕ → Want → Bool
upward axis want = eqb axis 5 || ((eqb axis 6 || eqb axis 7) && (is_none want.kind && is_none want.name))

-- of so many contexts there is one, and that is asked for
unfoldable pub lone_path : ℕ → ℕ → Want → Bool
lone_path many axis want = eqb many 1 && upward axis want

-- the path of a link has k rows, and there is room for them
pub record PathIn (trees : Trees) (up : List ℕ) (link k : ℕ) (out : List ℕ) : Type 0 where
  pub parents : Parents trees.level.now trees.count up
  pub low : link ≤ trees.count
  pub many : length (path_rows trees.level.now trees.count link) ≡ k
  pub room : k ≤ length out

-- one context whose rows are on its way up, the parents, and room for the rows
pub record LoneIn (axis : ℕ) (trees : Trees) (up : List ℕ) (test : NodeTest) (cs out : List ℕ) : Type 0 where
  pub lone : lone_path (length cs) axis test.want ≡ true
  pub asks : RoleIn axis trees test cs out
  pub parents : Parents trees.level.now trees.count up
