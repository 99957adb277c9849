-- `marks::mark::mark_children` meets its contract. The loop's invariant: what the first i contexts reach is in.
-- Assumes nothing.
use lib.ListN.{take}
use Rattle.marks.specs.RowSet.{Marked}
use Rattle.marks.proofs.mark.mark_children.Given as goal

abbrev pub invariant-loop-i : goal.invariant-loop-i
invariant-loop-i l = Marked 2 l.trees (take l.i l.rows) l.set
