-- `marks::walk::add_children` meets its contract. The loop's invariant, `ChildrenAdded`: the children before row w
-- are in, and w is the next child, or not before the end. Assumes nothing.
use Prim.Native.Nat.{◌-◌}
use Rattle.marks.proofs.ChildWalkLaws.{ChildrenAdded}
use Rattle.marks.proofs.walk.add_children.Given as goal

abbrev pub invariant-loop-w : goal.invariant-loop-w
invariant-loop-w l = ChildrenAdded l.trees.level.now l.p l.from l.end l.initial.set l.set l.w

abbrev pub decreases-loop-w : goal.decreases-loop-w
decreases-loop-w l = l.end - l.w
