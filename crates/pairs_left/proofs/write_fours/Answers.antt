-- `pairs_left::write_fours` meets its contract: as `write_left`, four pairs a turn. Assumes nothing.
use native.Mathlib.Omega.{arith}
use Rattle.pairs_left.proofs.WriteLaws.{writing_none, writing_most, writing_ahead, writing_fits, writing_puts}
use Rattle.pairs_left.proofs.write_fours.Goals as goal

pub loop-n-init : goal.loop-n-init
loop-n-init c = writing_none _ _ _ _ _ _ c.requires

pub overflow_add-n : goal.overflow_add-n
overflow_add-n c =
    let pre = c.requires in omega (arith, writing_most _ _ _ _ _ _ pre c.loop-n.invariant)

pub put_four-n-requires : goal.put_four-n-requires
put_four-n-requires c =
    let pre = c.requires in writing_fits _ _ _ _ _ _ pre c.loop-n.invariant 4 c.loop-n-test.true

pub loop-n-smaller : goal.loop-n-smaller
loop-n-smaller c =
    let pre = c.requires in
    let test = c.loop-n-test.true in
    omega (arith, writing_ahead _ _ _ _ _ _ pre c.loop-n.invariant, test)

pub loop-n-preserved : goal.loop-n-preserved
loop-n-preserved c =
    let pre = c.requires in
    let test = c.loop-n-test.true in
    writing_puts _ _ _ _ _ _ pre c.loop-n.invariant test c.put_four-n.ensures
