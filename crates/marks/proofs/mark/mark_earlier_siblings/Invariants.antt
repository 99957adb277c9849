-- `marks::mark::mark_earlier_siblings` meets its contract. The loop's invariant: what the contexts from number i on
-- reach is in. Assumes nothing.
use lib.ListN.{drop}
use Rattle.marks.specs.RowSet.{Marked}
use Rattle.marks.proofs.mark.mark_earlier_siblings.Given as goal

abbrev pub invariant-loop-i : goal.invariant-loop-i
invariant-loop-i l = Marked 11 l.trees (drop l.i l.rows) l.set
