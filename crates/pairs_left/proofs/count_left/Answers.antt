-- `pairs_left::count_left` meets its contract: the rows before place i that stay are counted. Assumes nothing.
use Prim.Native.Nat.{ℕ, ◌+◌}
use mathlib.Core.Path.{sym, ap₂, ◌∙◌}
use native.Mathlib.Omega.{arith}
use Rattle.pairs_left.proofs.StayLaws.{left_none, left_next, left_whole}
use borrow.Author.Rules.{rules}
use Rattle.pairs_left.proofs.count_left.Goals as goal

pub returns-then-first-to : goal.returns-then-first-to
returns-then-first-to c = left_whole _ _ c.if-first-to.true _

pub loop-w-init : goal.loop-w-init
loop-w-init c = (search rules, sym (left_none _ _ c.args.row.now))

pub loop-w-preserved : goal.loop-w-preserved
loop-w-preserved c =
    let row = c.args.row.now in let here = left_next _ _ row c.loop-w.w-index c.loop-w-test.true in (
      omega (arith, c.stays-left.ensures.small, c.loop-w.invariant.0),
      ap₂ (λ (a b : ℕ). a + b) c.loop-w.invariant.1 c.stays-left.ensures.counted ∙ sym here,
    )
