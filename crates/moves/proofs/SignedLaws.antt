-- The signed move at 64 bits: a move of at most 4,096 rows, either way, added to a row number, as the code computes it,
-- `sum_fits`, `sum_is`. The code's first tests leave no other move, `small_move`. A move that fits is small,
-- `fits_small`, and takes a row to a row, `row_moves`. The first tests refuse only what refusal 17 does,
-- `refused_otherwise`, `far_down`, `far_up`; the last are its own, `same_tests`. Assumes nothing.
use mathlib.Core.Path.{◌≡◌, refl, sym, ap₂, ◌∙◌}
use mathlib.Core.Bool.{Bool, true, false, cond, ◌&&◌, true≢false}
use Prim.Native.Nat.{ℕ, suc, ◌+◌, ◌-◌, ◌<◌, ◌≤◌}
use native.Mathlib.Omega.{arith}
use borrow.Author.Tests.{ltb-false, le-ltb, le-leb}
use lib.Dec.{ltb, leb}
use lib.IntN.{ℤ, pos, negsuc, sub_ℕ, ◌+ℤ◌}
use lib.Signed.{mag, lt_z, le_z}
use mir.Syntax.{w64}
use mir.Val.{SFits, to_z, of_z}
use mir.Facts.{to_z_pos, to_z-of_z}
use Rattle.tree.specs.Carry.{move_ok}
use Rattle.tree.specs.CarryRules.{MoveFits}
use Rattle.tree.proofs.RowMoveLaws.{move_adds, move_ok_lem}
use Rattle.tree.proofs.CarryAccept.{count_moves}

-- the difference of two row numbers is no further from 0 than their sum
sub_small : (a b : ℕ) → mag (sub_ℕ a b) ≤ a + b
sub_small a b = go (ltb a b)
  where
    go : (c : Bool) → mag (cond c (negsuc (b - suc a)) (pos (a - b))) ≤ a + b
    go true = omega arith
    go false = omega arith

-- ── a sum as the code computes it ──
module _ (n : ℕ) (m : ℤ) (l : n ≤ 4096) (k : mag m ≤ 4096) where
  -- it is near
  sum_small : SFits w64 (pos n +ℤ m)
  sum_small = record { sfits = go m k }
    where
      go : (m : ℤ) → mag m ≤ 4096 → mag (pos n +ℤ m) < 9223372036854775808
      go (pos a) k = omega arith
      go (negsuc a) k = omega (arith, sub_small n (suc a))

  -- its two numbers, read back from their bits
  as_read : to_z w64 n +ℤ to_z w64 (of_z w64 m) ≡ pos n +ℤ m
  as_read =
      ap₂ (λ (a b : ℤ). a +ℤ b) (to_z_pos w64 {n = n} (omega arith))
      (to_z-of_z {w = w64} {z = m} (record { sfits = omega arith }))

  -- so the sum fits
  pub sum_fits : SFits w64 (to_z w64 n +ℤ to_z w64 (of_z w64 m))
  sum_fits = rw as_read sum_small

  -- and is what it should be
  pub sum_is : to_z w64 (of_z w64 (to_z w64 n +ℤ to_z w64 (of_z w64 m))) ≡ pos n +ℤ m
  sum_is = rw as_read (to_z-of_z sum_small)

-- ── a move that fits ──
-- a move that passes the first two tests is small
pub small_move : (m : ℤ) → lt_z m (negsuc 4095) ≡ false → lt_z (pos 4096) m ≡ false → mag m ≤ 4096
small_move (pos a) d u = ltb-false 4096 a u
small_move (negsuc a) d u = let z : a ≤ 4095 = ltb-false 4095 a d in omega arith

module _ (old first : ℕ) (m : ℤ) (h : MoveFits old first m) (l : old ≤ 4096) where
  -- it adds no more rows than there is room for, and takes no more away than there are
  fits_near : (lt_z m (negsuc 4095) ≡ false) × (lt_z (pos 4096) m ≡ false)
  fits_near = go m h.leaves
    where
      go : (m : ℤ) → pos old +ℤ m ≡ pos h.new → (lt_z m (negsuc 4095) ≡ false) × (lt_z (pos 4096) m ≡ false)
      go (pos a) e =
          let z : old + a ≡ h.new = cc in
          (refl, le-ltb 4096 a (omega (arith, h.few)))
      go (negsuc a) e = (le-ltb 4095 a (within (ltb old (suc a)) refl e), refl)
        where
          within : (b : Bool) → ltb old (suc a) ≡ b
              → cond b (negsuc (suc a - suc old)) (pos (old - suc a)) ≡ pos h.new → a ≤ 4095
          within true c e = let z : ◌≡◌ {A = ℕ} 0 1 = cc in absurd (omega arith)
          within false c e = let z : suc a ≤ old = ltb-false _ _ c in omega arith

  -- so it is small
  pub fits_small : mag m ≤ 4096
  fits_small = small_move m fits_near.0 fits_near.1

  -- the first moved row and every later one, up to the old count, go to a row, up to the new count
  pub row_moves : (w : ℕ) → first ≤ w → w ≤ old → (n : ℕ) × (pos w +ℤ m ≡ pos n) × (n ≤ 4096)
  row_moves w a b = (
    w - first + h.to,
    move_adds m first h.to w h.lands a,
    omega (arith, count_moves old first m h, h.few, h.within),
  )

-- ── the code's tests ──
-- where the move does not fit, 17 is given
pub refused_otherwise : (old first : ℕ) (m : ℤ) → (MoveFits old first m → ⊥) → false ≡ move_ok old first m
refused_otherwise old first m h = go (move_ok old first m) refl
  where
    go : (b : Bool) → move_ok old first m ≡ b → false ≡ b
    go true e = absurd (h ((move_ok_lem old first m).0 e))
    go false e = refl

-- as where it takes more rows away than a table has
pub far_down : (old first : ℕ) (m : ℤ) → old ≤ 4096 → lt_z m (negsuc 4095) ≡ true → false ≡ move_ok old first m
far_down old first m l e =
    refused_otherwise old first m (λ h. true≢false (sym e ∙ (fits_near old first m h l).0))

-- or brings more
pub far_up : (old first : ℕ) (m : ℤ) → old ≤ 4096 → lt_z (pos 4096) m ≡ true → false ≡ move_ok old first m
far_up old first m l e =
    refused_otherwise old first m (λ h. true≢false (sym e ∙ (fits_near old first m h l).1))

-- five tests, of which the second passes
regroup : (a b c d e : Bool) → b ≡ true → (a && c && (d && e)) ≡ (a && b && c && d && e)
regroup true true true d e p = refl
regroup true true false d e p = refl
regroup true false c d e p = absurd (true≢false (sym p))
regroup false b c d e p = refl

-- the last tests of the code are those of refusal 17
pub same_tests : (old first : ℕ) (m : ℤ) → first ≤ old
    → (leb 1 first && le_z (pos 0) (pos first +ℤ m) && (le_z (pos 1) (pos old +ℤ m) && le_z (pos old +ℤ m) (pos 4096)))
    ≡ move_ok old first m
unfolding move_ok
same_tests old first m l = regroup (leb 1 first) (leb first old) _ _ _ (le-leb first old l)
