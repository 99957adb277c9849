-- `following::rows_after` meets its contract. The invariant: the trees of the contexts before number i are done.
-- Assumes nothing.
use Prim.Native.Nat.{◌-◌}
use lib.ListN.{length}
use Rattle.following.proofs.AfterLaws.{Turned}
use Rattle.following.proofs.rows_after.Given as goal

abbrev pub invariant-loop-i : goal.invariant-loop-i
invariant-loop-i l =
    Turned l.trees l.test l.rows l.initial.out l.top l.out l.next l.i

abbrev pub decreases-loop-i : goal.decreases-loop-i
decreases-loop-i l = length l.rows - l.i
