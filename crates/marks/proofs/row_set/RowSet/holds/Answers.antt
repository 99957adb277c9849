-- `marks::row_set::RowSet::holds` meets its contract. Assumes nothing.
use mathlib.Core.Path.{refl}
use Rattle.marks.specs.RowSet.{has, bit}
use Rattle.marks.proofs.row_set.RowSet.holds.Goals as goal

pub returns : goal.returns
unfolding has bit
returns c = rw (← c.self.view_is) refl
