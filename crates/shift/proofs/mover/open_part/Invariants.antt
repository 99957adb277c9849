-- `shift::mover::open_part` meets its contract. The first i rows are those of the piece, the others stand where they
-- were moved to. Assumes nothing.
use Rattle.shift.proofs.MoverLaws.{Put}
use Rattle.shift.proofs.mover.open_part.Given as goal

abbrev pub invariant-loop-i : goal.invariant-loop-i
invariant-loop-i live = Put live.piece live.initial.part live.part live.i
