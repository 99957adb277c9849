-- `ways::rows_above` meets its contract. The invariant, `Ascent`: the rows reached below the floor are
-- written, the rows of the first i contexts are below it, and it is not past the others. Assumes nothing.
use Rattle.ways.proofs.AboveLaws.{ascent_start, ascent_asks, ascent_next, ascent_done}
use Rattle.ways.proofs.rows_above.Goals as goal
use Rattle.ways.proofs.rows_above.Goals.{In-loop-c}

pub loop-c-init : goal.loop-c-init
loop-c-init c =
    ascent_start c.requires.own_bound.0 c.requires.own_bound.1

pub way_up-next-requires : goal.way_up-next-requires
way_up-next-requires c =
    ascent_asks c.requires.own_bound.0 c.requires.own_bound.1 c.loop-c.invariant c.loop-c-test.true
    c.way_start-start.ensures c.requires.parents

pub loop-c-preserved : goal.loop-c-preserved
loop-c-preserved c =
    ascent_next c.requires.own_bound.0 c.requires.own_bound.1 c.loop-c.invariant c.loop-c-test.true
    c.way_start-start.ensures
    c.way_up-next.ensures

pub returns : goal.returns
returns c =
    ascent_done c.requires.own_bound.0 c.requires.own_bound.1 c.loop-c.invariant c.loop-c-test.false
