-- Sums over a list: `sum_less`, `sum_same`. Assumes nothing.
use mathlib.Core.Path.{◌≡◌}
use mathlib.Core.List.{List, [], ◌∷◌}
use Prim.Native.Nat.{ℕ, suc, ◌*◌, ◌<◌, ◌≤◌}
use native.Mathlib.Nat.{le_refl, mul-zero, mul-suc}
use native.Mathlib.Omega.{arith}
use lib.ListN.{length}
use Rattle.std.specs.List.{sum_by}
use Rattle.std.proofs.lemmas.List.Sums.{sum_by-cons}
use Rattle.tree.specs.Table.{at}

-- smaller summands have a smaller sum
pub sum_less : (f g : ℕ → ℕ) (xs : List ℕ) → ((i : ℕ) → i < length xs → f (at xs i) ≤ g (at xs i))
    → sum_by f xs ≤ sum_by g xs
sum_less f g [] h = le_refl 0
sum_less f g (x ∷ xs) h =
    let a : f x ≤ g x = h 0 (omega arith) in
    omega (arith, sum_by-cons f x xs, sum_by-cons g x xs, sum_less f g xs (λ i l. h (suc i) (omega arith)))

-- the sum of one number is a product
pub sum_same : (k : ℕ) (xs : List ℕ) → sum_by (λ c. k) xs ≡ k * length xs
sum_same k [] = omega (arith, mul-zero k)
sum_same k (x ∷ xs) = omega (arith, sum_by-cons (λ (c : ℕ). k) x xs, sum_same k xs, mul-suc k (length xs))
