-- `direct::earlier::rising_rows` meets its contract. The invariant, `Risen`: the rows reached below the floor, which is
-- the last context passed, are written. Assumes nothing.
use Rattle.direct.proofs.RisingLaws.{rise_start, rise_asks, rise_next, rise_done}
use Rattle.direct.proofs.earlier.rising_rows.Goals as goal

pub loop-c-init : goal.loop-c-init
loop-c-init c =
    rise_start c.requires.role_in c.requires.parents.0 c.requires.parents.1

pub append_earlier-next-requires : goal.append_earlier-next-requires
append_earlier-next-requires c =
    rise_asks c.requires.role_in c.requires.parents.0 c.requires.parents.1 c.loop-c.invariant c.loop-c-test.true

pub loop-c-preserved : goal.loop-c-preserved
loop-c-preserved c =
    rise_next c.requires.role_in c.requires.parents.0 c.requires.parents.1 c.loop-c.invariant c.loop-c-test.true
    c.append_earlier-next.ensures

pub returns : goal.returns
returns c =
    rise_done c.requires.role_in c.requires.parents.0 c.requires.parents.1 c.loop-c.invariant c.loop-c-test.false
