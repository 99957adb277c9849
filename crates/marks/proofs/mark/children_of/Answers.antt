-- `marks::mark::children_of` meets its contract: the laws of the axis, over what `add-children` leaves. Assumes
-- nothing.
use native.Mathlib.Omega.{arith}
use Rattle.marks.proofs.ContextLaws.{turn_fits}
use Rattle.marks.proofs.ChildLaws.{children_asks, children_done}
use Rattle.marks.proofs.mark.children_of.Goals as goal

pub overflow_add-c-2 : goal.overflow_add-c-2
overflow_add-c-2 c =
    let t = c.requires in omega (arith, turn_fits t)

pub overflow_add-c-3 : goal.overflow_add-c-3
overflow_add-c-3 c =
    let t = c.requires in omega (arith, turn_fits t)

pub add_children-requires : goal.add_children-requires
add_children-requires c = children_asks c.requires

pub returns : goal.returns
returns c = children_done c.requires c.add_children.ensures
