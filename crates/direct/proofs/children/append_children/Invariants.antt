-- `direct::children::append_children` meets its contract. The loop's invariant: the children before row `at.row` that
-- fit are appended, and it is the next child, or the end. Assumes nothing.
use Prim.Native.Nat.{◌-◌}
use Rattle.direct.proofs.ChildRowLaws.{Walked}
use Rattle.direct.proofs.children.append_children.Given as goal

abbrev pub invariant-loop-at : goal.invariant-loop-at
invariant-loop-at l =
    Walked l.trees l.test l.p l.from l.end l.initial.out l.written l.out l.at.row l.at.written

abbrev pub decreases-loop-at : goal.decreases-loop-at
decreases-loop-at l = l.end - l.at.row
