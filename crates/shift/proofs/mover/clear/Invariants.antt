-- `shift::mover::clear` meets its contract. The first i rows are zero, the others stand as they stood. Assumes nothing.
use lib.ListN.{replicate}
use Rattle.shift.proofs.MoverLaws.{Put}
use Rattle.shift.proofs.mover.clear.Given as goal

abbrev pub invariant-loop-i : goal.invariant-loop-i
invariant-loop-i l = Put (replicate l.n 0) l.initial.part l.part l.i
