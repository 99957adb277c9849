-- `lines::count_all` meets its contract. The lines of the roles before number i are counted. Assumes nothing.
use Prim.Native.Nat.{◌-◌}
use lib.ListN.{length}
use Rattle.lines.proofs.CountedLaws.{Counted}
use Rattle.lines.proofs.count_all.Given as goal

abbrev pub invariant-loop-i : goal.invariant-loop-i
invariant-loop-i l = Counted l.call l.set l.scratch l.total l.i

abbrev pub decreases-loop-i : goal.decreases-loop-i
decreases-loop-i l = length l.role - l.i
