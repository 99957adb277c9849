-- `marks::mark::parent_of` meets its contract: the laws of the axis, over what `add` leaves. Assumes nothing.
use native.Mathlib.Omega.{arith}
use Rattle.tree.proofs.TreeLaws.{parent_below}
use Rattle.marks.proofs.ContextLaws.{turn_row, turn_root, turn_parent}
use Rattle.marks.proofs.ParentLaws.{parent_none, parent_done}
use Rattle.marks.proofs.mark.parent_of.Goals as goal

pub returns-then-q-eq0 : goal.returns-then-q-eq0
returns-then-q-eq0 c =
    parent_none c.requires.turn (turn_root c.requires.turn c.requires.parents c.if-q-eq0.true)

pub add-requires : goal.add-requires
add-requires c =
    let e = turn_parent c.requires.turn c.requires.parents c.if-q-eq0.false in
    omega (arith, parent_below _ _ _ e, turn_row c.requires.turn, c.args.trees.now.shape.few)

pub returns : goal.returns
returns c =
    parent_done c.requires.turn _ (turn_parent c.requires.turn c.requires.parents c.if-q-eq0.false) c.add.ensures
