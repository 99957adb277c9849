-- `marks::mark::mark_earlier_siblings` meets its contract. The loop's invariant: what the contexts from number i on
-- reach is in. Assumes nothing.
use Rattle.marks.proofs.ContextLaws.{marks_last}
use Rattle.marks.proofs.mark.mark_earlier_siblings.Goals as goal

pub loop-i-init : goal.loop-i-init
loop-i-init c = marks_last 11 c.requires.marks
