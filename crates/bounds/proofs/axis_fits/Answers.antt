-- `bounds::axis_fits` meets its contract: each arm is the bound of its axes. Assumes nothing.
use mathlib.Core.Path.{◌≡◌}
use mathlib.Core.Logic.{inl, inr}
use native.Mathlib.Nat.{le_trans}
use native.Mathlib.Omega.{arith}
use borrow.Author.Tests.{leb-true}
use Rattle.links.proofs.LinkAxisLaws.{siblings_climb}
use Rattle.bounds.proofs.AxisBoundLaws.{one_most, below_most, above_most, beside_most}
use Rattle.bounds.proofs.axis_fits.Goals as goal

pub parent_spans-requires : goal.parent_spans-requires
parent_spans-requires c = record {
  few_rows = c.requires.few_rows;
  parents = c.requires.parents (siblings_climb _ (omega arith) (omega arith));
}

pub returns-in-1 : goal.returns-in-1
returns-in-1 c = λ e. le_trans (one_most c.requires.few_rows _ c.in-1.is) (leb-true _ _ e)

pub returns-in-2-to-4 : goal.returns-in-2-to-4
returns-in-2-to-4 c =
    λ e.
    let other : c.args.axis ≡ 1 → ⊥ = λ q. c.in-2-to-4.in_default-own.rest.1 (inl q) in
    le_trans (below_most c.requires.few_rows _ (omega arith) (omega arith))
    (rw c.spans.ensures at (leb-true c.spans.result c.args.room e))

pub returns-in-6 : goal.returns-in-6
returns-in-6 c =
    λ e.
    let other : c.args.axis ≡ 5 → ⊥ = λ q. c.in-6.in_default-own.rest.1 (inr q) in
    le_trans (above_most c.requires.few_rows _ (omega arith) (omega arith)) (leb-true _ _ e)

pub returns-in-10 : goal.returns-in-10
returns-in-10 c =
    λ e.
    le_trans (beside_most c.requires.few_rows _
    (c.requires.parents (siblings_climb _ (omega arith) (omega arith)))
    (omega arith) (omega arith))
    (rw c.parent_spans.ensures at (leb-true c.parent_spans.result c.args.room e))
