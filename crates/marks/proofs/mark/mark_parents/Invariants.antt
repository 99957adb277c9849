-- `marks::mark::mark_parents` meets its contract. The loop's invariant: what the first i contexts reach is in.
-- Assumes nothing.
use lib.ListN.{take}
use Rattle.marks.specs.RowSet.{Marked}
use Rattle.marks.proofs.mark.mark_parents.Given as goal

abbrev pub invariant-loop-i : goal.invariant-loop-i
invariant-loop-i l = Marked 5 l.trees (take l.i l.rows) l.set
