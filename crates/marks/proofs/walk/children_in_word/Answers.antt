-- `marks::walk::children_in_word` meets its contract. The loop's invariant: the children before row `s.row` are
-- gathered. Assumes nothing.
use Rattle.marks.proofs.WordChildLaws.{gathered_start}
use Rattle.marks.proofs.walk.children_in_word.Goals as goal

pub loop-s-init : goal.loop-s-init
loop-s-init c = gathered_start c.requires
