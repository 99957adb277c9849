-- What an axis follows, as a column of one entry for each row. Assumes nothing.
use Rattle.std.specs.Prelude.{◌≡◌, Bool, true, cond, ◌||◌, List, ℕ, ◌+◌, ◌-◌, ◌<◌, eqb, length}
use Rattle.tree.specs.Table.{at}
use Rattle.scan.specs.OneRole.{Parents, Roots}

-- a column of 4,096 zeros
pub record Zeros (up : List ℕ) : Type 0 where
  pub long : length up ≡ 4096
  pub zero : (w : ℕ) → w < 4096 → at up w ≡ 0

-- one more than the row that a path by level has above level l, 0 at level 0
unfoldable pub above_of : List ℕ → ℕ → ℕ
above_of path l = cond (eqb l 0) 0 (at path (l - 1) + 1)

-- the axes that follow parents
unfoldable pub climbs_axis : ℕ → Bool
climbs_axis axis = eqb axis 5 || (eqb axis 6 || (eqb axis 7 || (eqb axis 10 || eqb axis 11)))

-- the axes that stop at the ends of a tree
unfoldable pub side_axis : ℕ → Bool
side_axis axis = eqb axis 8 || eqb axis 9

-- up holds for each row what the axis follows: its parent, or where the axis stops at the ends of a tree its root
pub record UpFor (axis : ℕ) (level : List ℕ) (n : ℕ) (up : List ℕ) : Type 0 where
  pub parents : climbs_axis axis ≡ true → Parents level n up
  pub roots : side_axis axis ≡ true → Roots level n up
