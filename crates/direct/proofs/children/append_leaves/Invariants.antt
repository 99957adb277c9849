-- `direct::children::append_leaves` meets its contract. The loop's invariant: the children before row w that fit are
-- appended, and w is not before the row at which it began. Assumes nothing.
use Rattle.direct.proofs.ChildRowLaws.{Walked}
use Rattle.direct.proofs.children.append_leaves.Given as goal

abbrev pub invariant-loop-w : goal.invariant-loop-w
invariant-loop-w l =
    Walked l.trees l.test l.p l.fn.at.row l.end l.initial.out l.fn.at.written l.out l.w l.written
