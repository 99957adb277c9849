-- How many numbers a search gathers, at most: `gather_within`, where they lie in a range; `gather_less`, where they
-- pass another test too; `gather_either`, where each passes one of two tests. Assumes nothing.
use mathlib.Core.Path.{◌≡◌, refl, ap}
use mathlib.Core.Bool.{Bool, true, false, ◌||◌}
use Prim.Native.Nat.{ℕ, zero, suc, ◌+◌, ◌-◌, ◌<◌, ◌≤◌, min}
use native.Mathlib.Nat.{le_refl}
use native.Mathlib.Omega.{arith}
use lib.ListN.{length}
use Rattle.tree.specs.Search.{gather, only}
use Rattle.tree.proofs.SearchLaws.{gather_zero, gather_length}

gather_nothing : (f : ℕ → Bool) → length (gather f 0) ≡ 0
gather_nothing f = ap length (gather_zero f)

gather_between : (f : ℕ → Bool) (a b n : ℕ) → ((w : ℕ) → w < n → f w ≡ true → (a ≤ w) × (w < b))
    → length (gather f n) ≤ min n b - a
gather_between f a b zero h = omega (arith, gather_nothing f)
gather_between f a b (suc n) h =
    go (f n) (h n (le_refl (suc n))) (gather_between f a b n (λ w l. h w (omega arith))) (gather_length f n)
  where
    go : (t : Bool) → (t ≡ true → (a ≤ n) × (n < b)) → length (gather f n) ≤ min n b - a
        → length (gather f (suc n)) ≡ length (gather f n) + length (only t n)
        → length (gather f (suc n)) ≤ min (suc n) b - a
    go true g ih e = let x = g refl in omega (arith, x.0, x.1)
    go false g ih e = omega arith

-- numbers from a on, and before b
pub gather_within : (f : ℕ → Bool) (a b n : ℕ) → ((w : ℕ) → w < n → f w ≡ true → (a ≤ w) × (w < b))
    → length (gather f n) ≤ b - a
gather_within f a b n h = omega (arith, gather_between f a b n h)

-- what passes one test passes another
pub gather_less : (f g : ℕ → Bool) (n : ℕ) → ((w : ℕ) → w < n → f w ≡ true → g w ≡ true)
    → length (gather f n) ≤ length (gather g n)
gather_less f g zero h = omega (arith, gather_nothing f)
gather_less f g (suc n) h =
    omega (
      arith,
      gather_length f n,
      gather_length g n,
      gather_less f g n (λ w l. h w (omega arith)),
      one (f n) (g n) (h n (le_refl (suc n))),
    )
  where
    one : (a b : Bool) → (a ≡ true → b ≡ true) → length (only a n) ≤ length (only b n)
    one false b k = omega arith
    one true b k = rw (k refl) (le_refl 1)

-- one of two tests
pub gather_either : (f g : ℕ → Bool) (n : ℕ)
    → length (gather (λ w. f w || g w) n) ≤ length (gather f n) + length (gather g n)
gather_either f g zero = omega (arith, gather_nothing (λ w. f w || g w))
gather_either f g (suc n) =
    omega (
      arith,
      gather_length f n,
      gather_length g n,
      gather_length (λ w. f w || g w) n,
      gather_either f g n,
      one (f n) (g n),
    )
  where
    one : (a b : Bool) → length (only (a || b) n) ≤ length (only a n) + length (only b n)
    one true b = omega arith
    one false b = omega arith
