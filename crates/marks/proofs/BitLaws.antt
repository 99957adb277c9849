-- Laws of a word's bits: bit by bit (`bit_low`, `bit_half`, `bit_zero`, `bit_or_lem`, `bit_pow`), a word with a bit
-- set is not 0 (`bit_nonzero`), none is set past a width (`bit_high`), and the lowest bit that is set, with the word
-- without it (`lowest_bit`, `lowest_less`). Assumes nothing.
use mathlib.Core.Path.{◌≡◌, refl, sym, ap, ap₂, ◌∙◌}
use mathlib.Core.Bool.{Bool, true, false, ◌&&◌, ◌||◌, true≢false}
use Prim.Native.Nat.{ℕ, zero, suc, ◌+◌, ◌-◌, ◌*◌, ◌/◌, ◌%◌, ◌^◌, ◌<◌, ◌≤◌, min, max}
use native.Mathlib.Nat.{not-suc-le-zero, le_of_suc-le-suc, div-one, div-eq_of_lt}
use native.Mathlib.Nat.{pow-suc, mul-mod_left, mul-div_cancel}
use native.Mathlib.Numerals.{add-one}
use native.Mathlib.Omega.{arith}
use borrow.Author.Tests.{lt-ltb}
use lib.Dec.{ltb, eqb, eqb-zero-suc, eqb-suc-zero, eqb-suc-suc, leb-suc-zero, leb-suc-suc}
use lib.Arith.{digits_div, digits_mod, lt-one}
use lib.Pow.{shr-shr, shr_lt, pow_mono}
use lib.Bits.{bit_and, bit_or, or_step, or_shr, and_step, and_self, and_le_r}
use lib.Count.{count_trailing_zeros, under}
use Rattle.marks.specs.RowSet.{bit}

-- bit 0 is the lowest binary digit
pub bit_low : (x : ℕ) → bit x zero ≡ eqb (x % 2) 1
unfolding bit
bit_low x = ap (λ (n : ℕ). eqb (n % 2) 1) (div-one x)

-- the bits from the second on are those of the half
pub bit_half : (x b : ℕ) → bit x (suc b) ≡ bit (x / 2) b
unfolding bit
bit_half x b =
    let e : 1 + b ≡ suc b = omega arith in
    ap (λ (n : ℕ). eqb (n % 2) 1) (ap (λ (k : ℕ). x / 2 ^ k) (sym e) ∙ sym (shr-shr x 1 b))

-- 0 has no bit
pub bit_zero : (b : ℕ) → bit zero b ≡ false
bit_zero zero = bit_low zero
bit_zero (suc b) = bit_half zero b ∙ bit_zero b

-- so a word with a bit is not 0
pub bit_nonzero : (x b : ℕ) → bit x b ≡ true → x ≡ 0 → ⊥
bit_nonzero x b e z = true≢false (sym e ∙ ap (λ (n : ℕ). bit n b) z ∙ bit_zero b)

-- a word has no bit past its width
pub bit_high : (x k b : ℕ) → x < 2 ^ k → k ≤ b → bit x b ≡ false
unfolding bit
bit_high x k b l h =
    let m : 2 ^ k ≤ 2 ^ b = pow_mono h in
    let q : x / 2 ^ b ≡ 0 = div-eq_of_lt (omega arith) in
    ap (λ (n : ℕ). eqb (n % 2) 1) q

-- two digits, joined
digit_or : (p q : ℕ) → p < 2 → q < 2 → eqb (max p q) 1 ≡ (eqb p 1 || eqb q 1)
digit_or zero zero h l = refl
digit_or zero (suc zero) h l = refl
digit_or (suc zero) zero h l = refl
digit_or (suc zero) (suc zero) h l = refl
digit_or zero (suc (suc q)) h l = absurd (omega arith)
digit_or (suc zero) (suc (suc q)) h l = absurd (omega arith)
digit_or (suc (suc p)) q h l = absurd (omega arith)

low_or : (x y : ℕ) → bit_or x y % 2 ≡ max (x % 2) (y % 2)
low_or x y = ap (λ (n : ℕ). n % 2) (or_step x y) ∙ digits_mod (bit_or (x / 2) (y / 2)) (omega arith)

-- the bits of either
pub bit_or_lem : (x y b : ℕ) → bit (bit_or x y) b ≡ (bit x b || bit y b)
bit_or_lem x y zero =
    bit_low (bit_or x y) ∙ ap (λ (n : ℕ). eqb n 1) (low_or x y)
    ∙ digit_or (x % 2) (y % 2) (omega arith) (omega arith) ∙ sym (ap₂ ◌||◌ (bit_low x) (bit_low y))
bit_or_lem x y (suc b) =
    bit_half (bit_or x y) b ∙ ap (λ (n : ℕ). bit n b) (or_shr x y 1) ∙ bit_or_lem (x / 2) (y / 2) b
    ∙ sym (ap₂ ◌||◌ (bit_half x b) (bit_half y b))

pow_low : (a : ℕ) → 2 ^ suc a % 2 ≡ 0
pow_low a = ap (λ (n : ℕ). n % 2) (pow-suc 2 a) ∙ mul-mod_left (2 ^ a) 2

pow_half : (a : ℕ) → 2 ^ suc a / 2 ≡ 2 ^ a
pow_half a = ap (λ (n : ℕ). n / 2) (pow-suc 2 a) ∙ mul-div_cancel (2 ^ a) (omega arith)

-- a power of two has one bit
pub bit_pow : (a b : ℕ) → bit (2 ^ a) b ≡ eqb b a
bit_pow zero zero = bit_low 1
bit_pow zero (suc b) = bit_half 1 b ∙ bit_zero b ∙ sym (eqb-suc-zero b)
bit_pow (suc a) zero = bit_low (2 ^ suc a) ∙ ap (λ (n : ℕ). eqb n 1) (pow_low a) ∙ sym (eqb-zero-suc a)
bit_pow (suc a) (suc b) =
    bit_half (2 ^ suc a) b ∙ ap (λ (n : ℕ). bit n b) (pow_half a) ∙ bit_pow a b ∙ sym (eqb-suc-suc b a)

-- b is the lowest bit of x that is set, and y is x without it
pub record LowestBit (x b y : ℕ) : Type 0 where
  pub set : bit x b ≡ true
  pub below : (i : ℕ) → i < b → bit x i ≡ false
  pub rest : (i : ℕ) → bit y i ≡ (ltb b i && bit x i)

-- the bits of y, which is twice z
twice_low : (y z : ℕ) → y ≡ z * 2 + 0 → bit y zero ≡ false
twice_low y z e =
    bit_low y ∙ ap (λ (n : ℕ). eqb n 1) (ap (λ (n : ℕ). n % 2) e ∙ digits_mod z (omega arith))

twice_half : (y z b : ℕ) → y ≡ z * 2 + 0 → bit y (suc b) ≡ bit z b
twice_half y z b e =
    bit_half y b ∙ ap (λ (n : ℕ). bit n b) (ap (λ (n : ℕ). n / 2) e ∙ digits_div z (omega arith))

-- where the first bit is set it is the lowest; where it is not, the half's lowest is
module _ (x : ℕ) where
  odd_without : x % 2 ≡ 1 → bit_and x (x - 1) ≡ x / 2 * 2 + 0
  odd_without e =
      let h : (x - 1) / 2 ≡ x / 2 = omega arith in
      let d : min (x % 2) ((x - 1) % 2) ≡ 0 = omega arith in
      and_step x (x - 1) ∙ ap₂ (λ (p q : ℕ). bit_and (x / 2) p * 2 + q) h d
      ∙ ap (λ (p : ℕ). p * 2 + 0) (and_self (x / 2))

  lowest_odd : x % 2 ≡ 1 → LowestBit x zero (bit_and x (x - 1))
  lowest_odd e = record {
    set = bit_low x ∙ ap (λ (n : ℕ). eqb n 1) e;
    below = λ i l. absurd (not-suc-le-zero l);
    rest = elim [
      | zero ↦ twice_low (bit_and x (x - 1)) (x / 2) (odd_without e)
      | suc i ↦ twice_half (bit_and x (x - 1)) (x / 2) i (odd_without e)
          ∙ sym (ap₂ ◌&&◌ (lt-ltb zero (suc i) (omega arith)) (bit_half x i))
    ];
  }

  module _ (even : x % 2 ≡ 0) (some : x ≡ 0 → ⊥) where
    even_without : bit_and x (x - 1) ≡ bit_and (x / 2) (x / 2 - 1) * 2 + 0
    even_without =
        let h : (x - 1) / 2 ≡ x / 2 - 1 = omega arith in
        let d : min (x % 2) ((x - 1) % 2) ≡ 0 = omega arith in
        and_step x (x - 1) ∙ ap₂ (λ (p q : ℕ). bit_and (x / 2) p * 2 + q) h d

    lowest_even : (b : ℕ) → LowestBit (x / 2) b (bit_and (x / 2) (x / 2 - 1)) → LowestBit x (suc b) (bit_and x (x - 1))
    lowest_even b h = record {
      set = bit_half x b ∙ h.set;
      below = elim [
        | zero ↦ λ l. bit_low x ∙ ap (λ (n : ℕ). eqb n 1) even
        | suc i ↦ λ l. bit_half x i ∙ h.below i (le_of_suc-le-suc l)
      ];
      rest = elim [
        | zero ↦ twice_low (bit_and x (x - 1)) (bit_and (x / 2) (x / 2 - 1)) even_without
            ∙ sym (ap (λ (t : Bool). t && bit x zero) (leb-suc-zero (suc b)))
        | suc i ↦ twice_half (bit_and x (x - 1)) (bit_and (x / 2) (x / 2 - 1)) i even_without
            ∙ h.rest i ∙ sym (ap₂ ◌&&◌ (leb-suc-suc (suc b) i) (bit_half x i))
      ];
    }

half_lt : {x : ℕ} (k : ℕ) → x < 2 ^ suc k → x / 2 < 2 ^ k
half_lt k h = shr_lt k 1 (rw add-one h)

-- b is the lowest bit of x, and one of the first k
abbrev LowestIn : ℕ → ℕ → ℕ → Type 0
LowestIn k x b = (b < k) × LowestBit x b (bit_and x (x - 1))

-- the number of zeros at the end of a word that is not 0 is the number of its lowest bit
pub lowest_bit : (k x : ℕ) → x < 2 ^ k → (x ≡ 0 → ⊥)
    → (count_trailing_zeros k x < k) × LowestBit x (count_trailing_zeros k x) (bit_and x (x - 1))
unfolding count_trailing_zeros
lowest_bit zero x l n = absurd (n (lt-one l))
lowest_bit (suc k) x l n = go (x % 2) refl (lowest_bit k (x / 2) (half_lt k l))
  where
    go : (d : ℕ) → x % 2 ≡ d → ((x / 2 ≡ 0 → ⊥) → LowestIn k (x / 2) (count_trailing_zeros k (x / 2)))
        → LowestIn (suc k) x (under d (count_trailing_zeros k (x / 2)))
    go zero e ih =
        let r = ih (omega arith) in
        (omega (arith, r.0), lowest_even x e n (count_trailing_zeros k (x / 2)) r.1)
    go (suc zero) e ih = (omega arith, lowest_odd x e)
    go (suc (suc d)) e ih = absurd (omega arith)

-- without its lowest bit a word is less
pub lowest_less : (x : ℕ) → (x ≡ 0 → ⊥) → bit_and x (x - 1) < x
lowest_less x n = omega (arith, and_le_r x (x - 1))
