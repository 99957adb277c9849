-- `lines::write_all` meets its contract. The lines of the roles before number i stand in the result columns, and
-- their kept pairs are counted. Assumes nothing.
use Prim.Native.Nat.{◌-◌}
use lib.ListN.{length}
use Rattle.lines.proofs.WrittenLaws.{Written}
use Rattle.lines.proofs.KeptRunLaws.{Keeping}
use Rattle.lines.proofs.write_all.Given as goal

abbrev pub invariant-loop-i : goal.invariant-loop-i
invariant-loop-i l =
    Written l.call l.initial.out_role l.initial.out_row l.set l.out_role l.out_row l.m l.i × Keeping l.call l.kept l.i

abbrev pub decreases-loop-i : goal.decreases-loop-i
decreases-loop-i l = length l.role - l.i
