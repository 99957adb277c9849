-- `basics::least` meets its contract. Assumes nothing.
use mathlib.Core.Path.{sym}
use mathlib.Core.Bool.{true, false}
use native.Mathlib.Omega.{arith}
use Rattle.std.proofs.Common.{rules}
use Rattle.tree.proofs.SearchLaws.{least_at, least_none}
use Rattle.basics.proofs.least.Goals as goal

pub returns-then-passes : goal.returns-then-passes
returns-then-passes g c f h =
    sym (least_at f _ _ c.loop-i-test.true
    (λ k m. sym (h k false (omega (arith, c.loop-i-test.true)) (c.loop-i.invariant k m)))
    (sym (h _ true c.loop-i-test.true (search rules))))

pub returns : goal.returns
returns g c f h = sym (least_none f _ (λ k m. sym (h k false m (c.loop-i.invariant k (omega (arith, m, c.loop-i-test.false))))))
