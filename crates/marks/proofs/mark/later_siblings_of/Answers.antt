-- `marks::mark::later_siblings_of` meets its contract: the laws of the axis, over what `add-children` leaves. Assumes
-- nothing.
use native.Mathlib.Omega.{arith}
use Rattle.marks.proofs.ContextLaws.{turn_fits, turn_root, turn_parent, parent_fits}
use Rattle.marks.proofs.LaterLaws.{later_asks, later_done, later_none}
use Rattle.marks.proofs.mark.later_siblings_of.Goals as goal

pub returns-then-q-eq0 : goal.returns-then-q-eq0
returns-then-q-eq0 c =
    later_none c.requires.turn (turn_root c.requires.turn c.requires.parents c.if-q-eq0.true)

pub overflow_add-c : goal.overflow_add-c
overflow_add-c c =
    let t = c.requires.turn in omega (arith, turn_fits t)

pub overflow_add-c-2 : goal.overflow_add-c-2
overflow_add-c-2 c =
    let t = c.requires.turn in omega (arith, turn_fits t)

pub offset_bounds-size-p : goal.offset_bounds-size-p
offset_bounds-size-p c =
    let t = c.requires.turn in omega (arith, parent_fits t _ (turn_parent t c.requires.parents c.if-q-eq0.false))

pub bounds-size-p : goal.bounds-size-p
bounds-size-p c =
    let t = c.requires.turn in omega (arith, parent_fits t _ (turn_parent t c.requires.parents c.if-q-eq0.false))

pub overflow_add-p : goal.overflow_add-p
overflow_add-p c =
    let t = c.requires.turn in omega (arith, parent_fits t _ (turn_parent t c.requires.parents c.if-q-eq0.false))

pub overflow_add-p-2 : goal.overflow_add-p-2
overflow_add-p-2 c =
    let t = c.requires.turn in omega (arith, parent_fits t _ (turn_parent t c.requires.parents c.if-q-eq0.false))

pub add_children-requires : goal.add_children-requires
add_children-requires c =
    later_asks c.requires.turn _ (turn_parent c.requires.turn c.requires.parents c.if-q-eq0.false)

pub returns : goal.returns
returns c =
    later_done c.requires.turn _ (turn_parent c.requires.turn c.requires.parents c.if-q-eq0.false)
    c.add_children.ensures
