-- `shift::mover::open_part_raised` meets its contract. The first i rows are those of the piece with add more, the
-- others stand where they were moved to. Assumes nothing.
use mathlib.Core.List.{map}
use Prim.Native.Nat.{◌+◌}
use Rattle.shift.proofs.MoverLaws.{Put}
use Rattle.shift.proofs.mover.open_part_raised.Given as goal

abbrev pub invariant-loop-i : goal.invariant-loop-i
invariant-loop-i live = Put (map (λ l. l + live.add) live.piece) live.initial.part live.part live.i
