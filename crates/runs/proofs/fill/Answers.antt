-- `runs::fill` meets its contract. The first i places hold v. Assumes nothing.
use mathlib.Core.Path.{refl}
use native.Mathlib.Omega.{arith}
use lib.ListN.{length-set, length-replicate, replicate-append-replicate}
use Rattle.scan.proofs.WroteLaws.{wrote_as, wrote_none, wrote_more}
use Rattle.runs.proofs.fill.Goals as goal

pub loop-i-init : goal.loop-i-init
loop-i-init c = (refl, wrote_none _)

pub loop-i-preserved : goal.loop-i-preserved
loop-i-preserved c =
    let loop = c.loop-i in let v = c.args.v in (
      simp length-set loop.invariant.0,
      wrote_as (replicate-append-replicate loop.i 1 v)
          (wrote_more loop.invariant.1 v (rw (length-replicate loop.i v) (omega arith))),
    )
