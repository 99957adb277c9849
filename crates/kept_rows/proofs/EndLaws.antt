-- Laws of the count of places with their next ones: `ends_next`; and what holds of the count, where it holds of one and
-- goes on from place to place, `ends_all`. Assumes nothing.
use mathlib.Core.Path.{◌≡◌, refl, sym, ap, subst, ◌∙◌}
use mathlib.Core.Bool.{Bool, true, false, cond}
use Prim.Native.Nat.{ℕ, zero, suc, ◌+◌, ◌-◌, ◌<◌, ◌≤◌}
use native.Mathlib.Omega.{arith}
use Rattle.kept_rows.specs.Ends.{ends}

pub ends_next : (f : ℕ → Bool) (i : ℕ) (b : Bool) {kept more : ℕ} → 1 ≤ i → kept ≡ ends f (i - 1)
    → more ≡ kept + cond b 1 0 → b ≡ f i → more ≡ ends f (i + 1 - 1)
unfolding ends
ends_next f zero b l e m p = absurd (omega arith)
ends_next f (suc k) b {kept} {more} l e m p =
    let y : suc k - 1 ≡ k = omega arith in
    let z : suc k + 1 - 1 ≡ suc k = omega arith in
    let e' : kept ≡ ends f k = e ∙ ap (ends f) y in
    m ∙ ap (λ (x : ℕ). x + cond b 1 0) e' ∙ ap (λ (x : Bool). ends f k + cond x 1 0) p ∙ sym (ap (ends f) z)

module _ (P : ℕ → ℕ → Type 0) (f : ℕ → Bool) (n : ℕ) (start : P 1 1)
    (step : (kept i : ℕ) → P kept i → i < n → f i ≡ true → P (kept + 1) (i + 1))
    (skip : (kept i : ℕ) → P kept i → i < n → f i ≡ false → P (kept + 0) (i + 1)) where
  on : (b : Bool) (kept i : ℕ) → P kept i → i < n → f i ≡ b → P (kept + cond b 1 0) (i + 1)
  on true = step
  on false = skip

  upto : (k : ℕ) → k < n → P (ends f k) (k + 1)
  unfolding ends
  upto zero l = start
  upto (suc k) l =
      let z : k + 1 ≡ suc k = omega arith in
      on (f (suc k)) (ends f k) (suc k) (subst (P (ends f k)) z (upto k (omega arith))) l refl

  pub ends_all : 0 < n → P (ends f (n - 1)) n
  ends_all l = let z : n - 1 + 1 ≡ n = omega arith in subst (P (ends f (n - 1))) z (upto (n - 1) (omega arith))
