-- `marks::row_set::RowSet::drain` meets its contract. The loop's invariant: for some word, the words before it are
-- cleared and their rows that fit are written, the others are as they were, and `left` marks those of them that hold
-- a row. The measure is `left`. Assumes nothing.
use Rattle.scan.specs.Want.{accepts}
use Rattle.marks.proofs.DrainLaws.{SetWalk}
use Rattle.marks.proofs.row_set.RowSet.drain.Given as goal

abbrev pub invariant-loop-left : goal.invariant-loop-left
invariant-loop-left l =
    SetWalk (accepts l.test) l.initial.self-inside.words l.initial.left l.initial.out l.self-inside.words l.out
    l.left l.at

abbrev pub decreases-loop-left : goal.decreases-loop-left
decreases-loop-left l = l.left
