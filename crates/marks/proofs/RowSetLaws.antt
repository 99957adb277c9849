-- Laws of the set of rows: its rows word by word (`has_word`, `has_zero`, `unmarked_zero`), a blank set (`has_blank`,
-- `blank_used`, `blank_zeros`), and a row that is put in (`shifted_one`, `bit_with`). Assumes nothing.
use mathlib.Core.Path.{◌≡◌, sym, ap, ap₂, ◌∙◌}
use mathlib.Core.Bool.{Bool, false, not, ◌||◌}
use mathlib.Core.List.{List}
use Prim.Native.Nat.{ℕ, ◌+◌, ◌-◌, ◌*◌, ◌/◌, ◌%◌, ◌^◌, ◌<◌, ◌≤◌}
use native.Mathlib.Nat.{le_refl, one-mul}
use native.Mathlib.Omega.{arith}
use borrow.Author.Tests.{eq-eqb, eqb-true, not-false}
use lib.Dec.{eqb}
use lib.ListN.{length, replicate, get_or-replicate}
use lib.Pow.{shl_exact}
use lib.Bits.{bit_or}
use Rattle.tree.specs.Table.{at}
use Rattle.marks.specs.RowSet.{bit, has, Used, Blank}
use Rattle.marks.proofs.BitLaws.{bit_zero, bit_or_lem, bit_pow}

-- a row of word j, by the word
pub has_word : (words : List ℕ) (j w : ℕ) → 64 * j ≤ w → w < 64 * j + 64 → has words w ≡ bit (at words j) (w - 64 * j)
unfolding has
has_word words j w l h =
    let q : w / 64 ≡ j = omega arith in
    let r : w % 64 ≡ w - 64 * j = omega arith in
    ap₂ (λ (i b : ℕ). bit (at words i) b) q r

-- a word that is 0 holds no row
pub has_zero : (words : List ℕ) (w : ℕ) → at words (w / 64) ≡ 0 → has words w ≡ false
unfolding has
has_zero words w e = ap (λ (x : ℕ). bit x (w % 64)) e ∙ bit_zero (w % 64)

-- a word that is not marked is 0
pub unmarked_zero : {words : List ℕ} {used j : ℕ} → Used words used → j < 64 → bit used j ≡ false → at words j ≡ 0
unmarked_zero {words} {used} {j} s l e = eqb-true (at words j) 0 (not-false _ (sym (s.marks j l) ∙ e))

-- a blank set has no row
pub has_blank : {words : List ℕ} → Blank words → (w : ℕ) → w < 4096 → has words w ≡ false
has_blank {words} b w l = has_zero words w (b.zero (w / 64) (omega arith))

-- none of its words is marked
pub blank_used : {words : List ℕ} → length words ≡ 64 → Blank words → Used words 0
blank_used {words} e b =
    record { long = e; marks = λ j l. bit_zero j ∙ sym (ap not (eq-eqb (at words j) 0 (b.zero j l))) }

-- 64 zeros are one
pub blank_zeros : Blank (replicate 64 0)
blank_zeros = record { zero = λ j l. get_or-replicate 64 j 0 0 l }

-- 1, shifted by less than the width
pub shifted_one : (b : ℕ) → b < 64 → 1 * 2 ^ b % 2 ^ 64 ≡ 2 ^ b
shifted_one b l = shl_exact 1 b 64 (le_refl 2) (omega arith) ∙ one-mul (2 ^ b)

-- the bits of a word with bit b
pub bit_with : (word b i : ℕ) → bit (bit_or word (2 ^ b)) i ≡ (bit word i || eqb i b)
bit_with word b i = bit_or_lem word (2 ^ b) i ∙ ap (λ (t : Bool). bit word i || t) (bit_pow b i)
