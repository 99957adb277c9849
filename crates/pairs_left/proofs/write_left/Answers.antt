-- `pairs_left::write_left` meets its contract: the pairs before place i that stay stand in front of the result
-- columns, and nothing behind the first `left` results is changed. The loop's invariant cannot name the columns as they
-- were before the fours, so it says this against any columns against which it held before the loop. Assumes nothing.
use native.Mathlib.Omega.{arith}
use Rattle.pairs_left.proofs.WriteLaws.{writing_ahead, writing_fits, writing_puts, writing_done}
use Rattle.pairs_left.proofs.write_left.Goals as goal

pub put_pair-n-requires : goal.put_pair-n-requires
put_pair-n-requires c =
    let pre = c.requires in writing_fits _ _ _ _ _ _ pre (c.loop-n.invariant _ _ pre c.write_fours-reached.ensures) 1
    (omega (arith, c.loop-n-test.true))

pub loop-n-smaller : goal.loop-n-smaller
loop-n-smaller c =
    let pre = c.requires in omega (
      arith,
      writing_ahead _ _ _ _ _ _ pre (c.loop-n.invariant _ _ pre c.write_fours-reached.ensures),
      c.loop-n-test.true,
    )

pub loop-n-preserved : goal.loop-n-preserved
loop-n-preserved c a b s w =
    writing_puts _ _ _ _ _ _ s (c.loop-n.invariant a b s w) (omega (arith, c.loop-n-test.true))
    c.put_pair-n.ensures

pub returns : goal.returns
returns c =
    let pre = c.requires in let done = c.loop-n.invariant _ _ pre c.write_fours-reached.ensures in
    writing_done _ _ _ _ _ _ pre done c.loop-n-test.false
