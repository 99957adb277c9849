-- `links::parents` meets its contract. The loop's invariant, `Opened`: the rows before i have their parents,
-- and at each level up to that of the row before i the path has the last row of that level. Assumes nothing.
use native.Mathlib.Omega.{arith}
use Rattle.links.proofs.ParentPassLaws.{open_start, open_high, open_small, open_next}
use Rattle.links.proofs.parents.Goals as goal

pub loop-i-init : goal.loop-i-init
loop-i-init c =
    let s = c.args.trees.now.shape in open_start s c.args.up.now (omega (arith, s.few))

pub above-requires : goal.above-requires
above-requires c =
    let s = c.args.trees.now.shape in let v = c.loop-i.invariant in λ p. (
      omega (arith, open_high s v c.loop-i-test.true, v.wide),
      omega (arith, open_small s v c.loop-i-test.true p, s.few),
    )

pub loop-i-preserved : goal.loop-i-preserved
loop-i-preserved c =
    open_next c.args.trees.now.shape c.loop-i.invariant c.loop-i-test.true c.above.ensures
