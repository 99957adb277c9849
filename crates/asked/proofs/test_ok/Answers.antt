-- `asked::test_ok` meets its contract, arm by arm. Assumes nothing.
use mathlib.Core.Path.{sym}
use mathlib.Core.Logic.{inl, inr}
use native.Mathlib.Omega.{arith}
use Rattle.tree.proofs.AskLaws.{test_named, test_plain, test_above}
use Rattle.asked.proofs.test_ok.Goals as goal
use Rattle.asked.proofs.test_ok.Goals.{in-7-1, in_default+then-test-lt6}

pub returns-in-2 : goal.returns-in-2
returns-in-2 c = sym (test_named _ _ c.in-2.is)

pub returns-in_default : goal.returns-in_default
returns-in_default c =
    let other = c.in_default.in_default-own.rest in
    sym (test_above _ _ (omega arith) (λ e. other.0.1 (inr e)) other.1)

pub returns-in-0-to-7 : goal.returns-in-0-to-7
returns-in-0-to-7 c =
    elim c.in-0-to-7-1.branch [
      | in-7-1 w ↦ let e = w.in-7-1.keys2 in sym (test_plain _ _ (omega arith) (λ q. omega arith) (λ q. omega arith))
      | in_default+then-test-lt6 w ↦ sym (test_plain _ _ (omega arith) (λ q. w.in_default-1.rest.0.1 (inl q))
          (λ q. w.in_default-1.rest.0.1 (inr q)))
    ]
