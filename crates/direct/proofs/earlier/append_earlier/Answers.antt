-- `direct::earlier::append_earlier` meets its contract: the earlier siblings of a row are children of its parent.
-- Assumes nothing.
use mathlib.Core.Path.{refl}
use native.Mathlib.Omega.{arith}
use Rattle.direct.proofs.RisingLaws.{earlier_none, earlier_asks, earlier_done}
use Rattle.direct.proofs.earlier.append_earlier.Goals as goal

pub returns-then-q-eq0 : goal.returns-then-q-eq0
returns-then-q-eq0 c = earlier_none c.requires c.if-q-eq0.true

pub append_children-requires : goal.append_children-requires
append_children-requires c =
    earlier_asks c.requires refl (omega (arith, c.if-q-eq0.false)) c.max.ensures

pub returns : goal.returns
returns c =
    earlier_done c.requires refl (omega (arith, c.if-q-eq0.false)) c.max.ensures
    c.append_children.ensures
