-- `preceding::next_open` meets its contract. The invariant: the rows from w on, and before v, have ended before row
-- c. Assumes nothing.
use Prim.Native.Nat.{◌-◌}
use Rattle.scan.proofs.SideLaws.{PassedOver}
use Rattle.preceding.proofs.next_open.Given as goal

abbrev pub invariant-loop-v : goal.invariant-loop-v
invariant-loop-v l = PassedOver l.size l.c l.w l.v

abbrev pub decreases-loop-v : goal.decreases-loop-v
decreases-loop-v l = l.c - l.v
