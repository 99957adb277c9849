-- `marks::mark::mark_later_siblings` meets its contract. The loop's invariant: what the first i contexts reach is in.
-- Assumes nothing.
use lib.ListN.{take}
use Rattle.marks.specs.RowSet.{Marked}
use Rattle.marks.proofs.mark.mark_later_siblings.Given as goal

abbrev pub invariant-loop-i : goal.invariant-loop-i
invariant-loop-i l = Marked 10 l.trees (take l.i l.rows) l.set
