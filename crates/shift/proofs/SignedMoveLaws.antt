-- Rows that go, as a signed number at 64 bits: `small_pos`, `neg_is`, `minus_fits`, `back_is`. Assumes nothing.
use mathlib.Core.Path.{◌≡◌, refl}
use Prim.Native.Nat.{ℕ, zero, suc, ◌≤◌}
use native.Mathlib.Omega.{arith}
use lib.IntN.{pos, negsuc, ◌-ℤ◌, +ℤ_idl}
use mir.Syntax.{w64}
use mir.Val.{SFits, to_z, of_z}
use mir.Facts.{to_z_pos, to_z-of_z}
use Rattle.tree.specs.Edit.{minus}

-- a number of rows, read as a signed number, is itself
pub small_pos : (n : ℕ) → n ≤ 4096 → to_z w64 n ≡ pos n
small_pos n h = to_z_pos w64 (omega arith)

-- 0 less that number
pub neg_is : (n : ℕ) → pos 0 -ℤ pos n ≡ minus n
unfolding minus
neg_is zero = refl
neg_is (suc n) = +ℤ_idl (negsuc n)

-- and it fits
pub minus_fits : (n : ℕ) → n ≤ 4096 → SFits w64 (minus n)
unfolding minus
minus_fits zero h = record { sfits = omega arith }
minus_fits (suc n) h = record { sfits = omega arith }

-- 0 less that number, as the code computes it
pub back_is : (n : ℕ) → n ≤ 4096 → to_z w64 (of_z w64 (pos 0 -ℤ to_z w64 n)) ≡ minus n
back_is n h = rw (small_pos n h, neg_is n) (to_z-of_z (minus_fits n h))
