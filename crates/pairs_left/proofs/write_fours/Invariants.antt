-- `pairs_left::write_fours` meets its contract: as `write_left`, four pairs a turn. Assumes nothing.
use Prim.Native.Nat.{◌-◌}
use lib.ListN.{length}
use Rattle.pairs_left.specs.Left.{Writing}
use Rattle.pairs_left.proofs.write_fours.Given as goal

abbrev pub invariant-loop-n : goal.invariant-loop-n
invariant-loop-n l =
    Writing l.role l.row l.edit l.left l.initial.out_role l.initial.out_row l.out_role l.out_row l.n l.i

abbrev pub decreases-loop-n : goal.decreases-loop-n
decreases-loop-n l = length l.role - l.i
