-- `marks::row_set::RowSet::new` meets its contract. Assumes nothing.
use mathlib.Core.Path.{refl}
use Rattle.marks.proofs.RowSetLaws.{blank_zeros, blank_used}
use Rattle.marks.proofs.row_set.RowSet.new.Goals as goal

pub invariant_of-result : goal.invariant_of-result
invariant_of-result c = blank_used refl blank_zeros

pub returns : goal.returns
returns c = blank_zeros
