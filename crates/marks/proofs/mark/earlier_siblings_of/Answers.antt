-- `marks::mark::earlier_siblings_of` meets its contract: the laws of the axis, over what `add-children` leaves.
-- Assumes nothing.
use Rattle.marks.proofs.ContextLaws.{turn_root, turn_parent}
use Rattle.marks.proofs.EarlierLaws.{earlier_asks, earlier_done, earlier_none}
use Rattle.marks.proofs.mark.earlier_siblings_of.Goals as goal

pub returns-then-q-eq0 : goal.returns-then-q-eq0
returns-then-q-eq0 c =
    earlier_none c.requires.turn (turn_root c.requires.turn c.requires.parents c.if-q-eq0.true)

pub add_children-requires : goal.add_children-requires
add_children-requires c =
    earlier_asks c.requires.turn _ (turn_parent c.requires.turn c.requires.parents c.if-q-eq0.false)

pub returns : goal.returns
returns c =
    earlier_done c.requires.turn _ (turn_parent c.requires.turn c.requires.parents c.if-q-eq0.false)
    c.add_children.ensures
