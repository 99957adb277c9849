-- `axis::is_ranged` meets its contract, arm by arm. Assumes nothing.
use mathlib.Core.Path.{sym, ap}
use mathlib.Core.Logic.{inl, inr}
use native.Mathlib.Omega.{arith}
use Rattle.axis.specs.Role.{ranged_axis}
use Rattle.axis.proofs.RoleAxisLaws.{ranged_pair, ranged_not}
use Rattle.axis.proofs.is_ranged.Goals as goal

pub returns-in_default : goal.returns-in_default
returns-in_default c =
    sym (ranged_not _ c.in_default.in_default-own.rest.1 (λ l h. omega arith)
    (λ l h. omega arith))

pub returns-in_default-2 : goal.returns-in_default-2
returns-in_default-2 c =
    sym (ranged_not _ c.in_default.in_default-own.rest.1 (λ l h. omega arith)
    (λ l h. omega arith))

pub returns-in_default-3 : goal.returns-in_default-3
returns-in_default-3 c =
    sym (ranged_not _ c.in_default.in_default-own.rest.1 (λ l h. omega arith)
    (λ l h. omega arith))

pub returns-in-1 : goal.returns-in-1
unfolding ranged_axis
returns-in-1 c = sym (ap ranged_axis c.in-1.in-1-own.keys1)

pub returns-in-1-2 : goal.returns-in-1-2
returns-in-1-2 c = sym (ranged_pair _ (inl ((omega arith), (omega arith))))

pub returns-in-1-3 : goal.returns-in-1-3
returns-in-1-3 c = sym (ranged_pair _ (inr ((omega arith), (omega arith))))
