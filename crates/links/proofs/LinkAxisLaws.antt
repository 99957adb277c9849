-- Which axes follow parents, `climbs_triple`, `siblings_climb`, `climbs_not`, and which stop at the ends of a tree,
-- `sides_pair`, `sides_not`, `side_of`; none does both, `climbs_aside`. Assumes nothing.
use mathlib.Core.Path.{◌≡◌, sym, ap, ◌∙◌}
use mathlib.Core.Logic.{◌⊎◌, ⊎_elim}
use mathlib.Core.Bool.{true, false, true≢false}
use Prim.Native.Nat.{ℕ, ◌<◌, ◌≤◌}
use native.Mathlib.Nat.{eq-or-lt_of_le}
use native.Mathlib.Omega.{arith}
use borrow.Author.Tests.{eqb-true, ne_eqb}
use lib.Dec.{eqb}
use Rattle.tree.proofs.SoundLaws.{either}
use Rattle.scan.proofs.WantLaws.{one_of_two}
use Rattle.links.specs.Links.{climbs_axis, side_axis}

module _ (a : ℕ) where
  pub climbs_triple : 5 ≤ a → a < 8 → climbs_axis a ≡ true
  unfolding climbs_axis
  climbs_triple l h = ⊎_elim
      (λ (e : 5 ≡ a). let q : a ≡ 5 = sym e in rw q)
      (λ (m : 5 < a). ⊎_elim (λ (e : a ≡ 6). rw e) (λ (e : a ≡ 7). rw e) (one_of_two a 6 m h))
      (eq-or-lt_of_le l)

  -- the sibling axes follow parents
  pub siblings_climb : 10 ≤ a → a < 12 → climbs_axis a ≡ true
  unfolding climbs_axis
  siblings_climb l h = ⊎_elim (λ (e : a ≡ 10). rw e) (λ (e : a ≡ 11). rw e) (one_of_two a 10 l h)

  pub climbs_not : (5 ≤ a → a < 8 → ⊥) → (10 ≤ a → a < 12 → ⊥) → climbs_axis a ≡ false
  unfolding climbs_axis
  climbs_not p q = simp (
    ne_eqb a 5 (λ e. p (omega arith) (omega arith)),
    ne_eqb a 6 (λ e. p (omega arith) (omega arith)),
    ne_eqb a 7 (λ e. p (omega arith) (omega arith)),
    ne_eqb a 10 (λ e. q (omega arith) (omega arith)),
    ne_eqb a 11 (λ e. q (omega arith) (omega arith)),
  )

  pub sides_pair : 8 ≤ a → a < 10 → side_axis a ≡ true
  unfolding side_axis
  sides_pair l h = ⊎_elim (λ (e : a ≡ 8). rw e) (λ (e : a ≡ 9). rw e) (one_of_two a 8 l h)

  pub sides_not : (8 ≤ a → a < 10 → ⊥) → side_axis a ≡ false
  unfolding side_axis
  sides_not n = simp (ne_eqb a 8 (λ e. n (omega arith) (omega arith)), ne_eqb a 9 (λ e. n (omega arith) (omega arith)))

-- an axis that follows parents does not stop at the ends of a tree
pub climbs_aside : (a : ℕ) → climbs_axis a ≡ true → side_axis a ≡ true → ⊥
unfolding climbs_axis side_axis
climbs_aside a c d = ⊎_elim
    (λ (e : eqb a 8 ≡ true). true≢false (sym c ∙ ap climbs_axis (eqb-true a 8 e)))
    (λ (e : eqb a 9 ≡ true). true≢false (sym c ∙ ap climbs_axis (eqb-true a 9 e)))
    (either (eqb a 8) _ d)

-- axes 8 and 9 do
pub side_of : (a : ℕ) → (a ≡ 8) ⊎ (a ≡ 9) → side_axis a ≡ true
unfolding side_axis
side_of a h = ⊎_elim (λ (e : a ≡ 8). rw e) (λ (e : a ≡ 9). rw e) h
