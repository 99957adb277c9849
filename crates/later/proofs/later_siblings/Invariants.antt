-- `later::later_siblings` meets its contract. The loop's invariant: what the contexts before number i reach is
-- written, what the others reach comes after it, and the set is empty. Assumes nothing.
use Prim.Native.Nat.{◌-◌}
use lib.ListN.{length}
use Rattle.marks.specs.RowSet.{Blank}
use Rattle.later.proofs.GroupLaws.{Grouped}
use Rattle.later.proofs.later_siblings.Given as goal

abbrev pub invariant-loop-i : goal.invariant-loop-i
invariant-loop-i l = Grouped l.walk.trees l.walk.test l.rows l.initial.out l.out l.next l.i × Blank l.set

abbrev pub decreases-loop-i : goal.decreases-loop-i
decreases-loop-i l = length l.rows - l.i
