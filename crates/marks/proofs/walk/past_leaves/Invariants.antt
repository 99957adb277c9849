-- `marks::walk::past_leaves` meets its contract. The loop's invariant: the children before row w are gathered.
-- Assumes nothing.
use Rattle.marks.specs.Mark.{Gathered}
use Rattle.marks.proofs.walk.past_leaves.Given as goal

abbrev pub invariant-loop-w : goal.invariant-loop-w
invariant-loop-w l = Gathered l.trees l.p l.from l.end l.w l.word
