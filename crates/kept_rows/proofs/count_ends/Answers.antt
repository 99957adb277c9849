-- `kept_rows::count_ends` meets its contract. Assumes nothing.
use mathlib.Core.Path.{refl}
use mathlib.Core.Bool.{true, false}
use native.Mathlib.Omega.{arith}
use Rattle.std.proofs.Common.{rules}
use Rattle.kept_rows.specs.Ends.{ends}
use Rattle.kept_rows.proofs.EndLaws.{ends_next}
use Rattle.kept_rows.proofs.count_ends.Goals as goal
use Rattle.kept_rows.proofs.count_ends.Goals.{then-test, else-test}

pub loop-i-init : goal.loop-i-init
unfolding ends
loop-i-init g c = (omega arith, λ f h. refl)

pub loop-i-preserved : goal.loop-i-preserved
loop-i-preserved g c =
    elim c.if-test.branch [
      | then-test w ↦ rw w.kept-is (
        omega (arith, c.loop-i.invariant.0),
        λ f h.
            ends_next f c.loop-i.i true (omega arith) (c.loop-i.invariant.1 f (λ k b m l p. h k b m (omega arith) p))
            (omega arith) (h c.loop-i.i true (omega arith) (omega arith) (search rules)),
      )
      | else-test w ↦ rw w.kept-is (
        omega (arith, c.loop-i.invariant.0),
        λ f h.
            ends_next f c.loop-i.i false (omega arith) (c.loop-i.invariant.1 f (λ k b m l p. h k b m (omega arith) p))
            (omega arith) (h c.loop-i.i false (omega arith) (omega arith) (search rules)),
      )
    ]
