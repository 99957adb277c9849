-- `marks::mark::mark_parents` meets its contract. The loop's invariant: what the first i contexts reach is in.
-- Assumes nothing.
use Rattle.marks.proofs.ContextLaws.{marks_first}
use Rattle.marks.proofs.mark.mark_parents.Goals as goal

pub loop-i-init : goal.loop-i-init
loop-i-init c = marks_first 5 c.requires.marks
