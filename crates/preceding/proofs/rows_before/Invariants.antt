-- `preceding::rows_before` meets its contract. The invariants: the trees of the contexts before number i are done;
-- in the tree that is being written, the rows below w are written. Assumes nothing.
use Prim.Native.Nat.{◌-◌}
use lib.ListN.{length}
use Rattle.preceding.proofs.BeforeLaws.{Behind, Within}
use Rattle.preceding.proofs.rows_before.Given as goal

abbrev pub invariant-loop-w : goal.invariant-loop-w
invariant-loop-w l =
    Within l.trees l.test l.rows l.initial.out l.initial.next l.r l.c l.out l.next l.w

abbrev pub decreases-loop-w : goal.decreases-loop-w
decreases-loop-w l = l.c - l.w

abbrev pub invariant-loop-i : goal.invariant-loop-i
invariant-loop-i l =
    Behind l.trees l.test l.rows l.initial.out l.top l.out l.next l.i

abbrev pub decreases-loop-i : goal.decreases-loop-i
decreases-loop-i l = length l.rows - l.i
