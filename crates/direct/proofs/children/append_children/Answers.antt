-- `direct::children::append_children` meets its contract. The loop's invariant: the children before row `at.row` that
-- fit are appended, and it is the next child, or the end. Assumes nothing.
use Rattle.direct.proofs.ChildRowLaws.{walk_start, walk_asks, walk_on}
use Rattle.direct.proofs.children.append_children.Goals as goal

pub loop-at-init : goal.loop-at-init
loop-at-init c = walk_start c.requires

pub append_leaves-at-requires : goal.append_leaves-at-requires
append_leaves-at-requires c = (c.loop-at-test.true, walk_asks c.requires c.loop-at.invariant)

pub loop-at-preserved : goal.loop-at-preserved
loop-at-preserved c =
    let r = c.append_leaves-at.ensures in
    walk_on c.requires c.loop-at.invariant r.0 r.1 r.2 r.3
