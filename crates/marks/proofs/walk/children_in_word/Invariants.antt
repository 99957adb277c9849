-- `marks::walk::children_in_word` meets its contract. The loop's invariant: the children before row `s.row` are
-- gathered. Assumes nothing.
use Prim.Native.Nat.{◌-◌}
use Rattle.marks.specs.Mark.{Gathered}
use Rattle.marks.proofs.walk.children_in_word.Given as goal

abbrev pub invariant-loop-s : goal.invariant-loop-s
invariant-loop-s l = Gathered l.trees l.p l.from l.end l.s.row l.s.word

abbrev pub decreases-loop-s : goal.decreases-loop-s
decreases-loop-s l = l.end - l.s.row
