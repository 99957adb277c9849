-- Which codes are accepted: `axis_ok_lem` for an axis. Which names fit a test code: `test_named` for codes 2 and 6,
-- `test_plain` for the others, `test_above` for unknown ones; together `test_ok_lem`. Assumes nothing.
use mathlib.Core.Path.{◌≡◌, sym, ◌∙◌}
use mathlib.Core.Logic.{◌⊎◌, inl, inr, ⊎_elim, ◌↔◌}
use mathlib.Core.Bool.{true, false, not}
use Prim.Native.Nat.{ℕ, ◌<◌, ◌≤◌}
use native.Mathlib.Decide.{ℕ_discrete}
use native.Mathlib.Omega.{arith}
use borrow.Author.Tests.{eqb-true, eqb-false, eq-eqb, ne_eqb, leb-true, le-leb, lt-leb, not-true}
use lib.Dec.{eqb, leb}
use Rattle.tree.specs.Axis.{axis_ok}
use Rattle.tree.specs.Test.{test_ok}
use Rattle.tree.specs.StepRules.{TestRule}
use Rattle.tree.proofs.SoundLaws.{both, both_of, flip}

-- an axis code is accepted exactly from 1 to 11
pub axis_ok_lem : (axis : ℕ) → (axis_ok axis ≡ true) ↔ ((1 ≤ axis) × (axis ≤ 11))
unfolding axis_ok
axis_ok_lem axis = (
  λ e. let h = both _ _ e in (leb-true _ _ h.0, leb-true _ _ h.1),
  λ h. both_of (le-leb _ _ h.0) (le-leb _ _ h.1),
)

-- codes 2 and 6 need a name other than 0
pub test_named : (test m : ℕ) → (test ≡ 2) ⊎ (test ≡ 6) → test_ok test m ≡ not (eqb m 0)
unfolding test_ok
test_named test m h = ⊎_elim (λ e. rw e) (λ e. rw e) h

-- the others need name 0
pub test_plain : (test m : ℕ) → test ≤ 7 → (test ≡ 2 → ⊥) → (test ≡ 6 → ⊥) → test_ok test m ≡ eqb m 0
unfolding test_ok
test_plain test m l p q = simp (le-leb test 7 l, ne_eqb test 2 p, ne_eqb test 6 q)

-- no code is above 7
pub test_above : (test m : ℕ) → 6 ≤ test → (test ≡ 6 → ⊥) → (test ≡ 7 → ⊥) → test_ok test m ≡ false
unfolding test_ok
test_above test m l p q = rw (lt-leb test 7 (let z : 7 < test = omega arith in z))

-- a test is accepted exactly from 0 to 7 and with the name that it needs
pub test_ok_lem : (test m : ℕ) → (test_ok test m ≡ true) ↔ TestRule test m
unfolding test_ok
test_ok_lem test m = (there, back)
  where
    there : test_ok test m ≡ true → TestRule test m
    there e =
        let l : test ≤ 7 = leb-true _ _ (both (leb test 7) _ e).0 in
        record {
          most = l;
          named = λ h. eqb-false _ _ (not-true _ (sym (test_named test m h) ∙ e));
          plain = λ p q. eqb-true _ _ (sym (test_plain test m l p q) ∙ e);
        }

    back : TestRule test m → test_ok test m ≡ true
    back h = elim (ℕ_discrete test 2) [
      | yes e ↦ test_named test m (inl e) ∙ flip (ne_eqb _ _ (h.named (inl e)))
      | no p ↦ elim (ℕ_discrete test 6) [
        | yes e ↦ test_named test m (inr e) ∙ flip (ne_eqb _ _ (h.named (inr e)))
        | no q ↦ test_plain test m h.most p q ∙ eq-eqb _ _ (h.plain p q)
      ]
    ]
