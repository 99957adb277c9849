-- `marks::mark::mark_children` meets its contract. The loop's invariant: what the first i contexts reach is in.
-- Assumes nothing.
use Rattle.marks.proofs.ContextLaws.{marks_first}
use Rattle.marks.proofs.mark.mark_children.Goals as goal

pub loop-i-init : goal.loop-i-init
loop-i-init c = marks_first 2 c.requires
