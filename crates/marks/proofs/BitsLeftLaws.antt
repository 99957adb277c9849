-- What is left of a word while its bits are taken, lowest first (`Left`): at the start (`left_start`), its lowest bit
-- (`left_high`, `left_low`, `left_set`, `left_skip`), without it (`left_next`), and when it is 0 (`left_none`).
-- Assumes nothing.
use mathlib.Core.Path.{◌≡◌, refl, sym, ap, ◌∙◌}
use mathlib.Core.Bool.{Bool, true, false, ◌&&◌, true≢false, and_assoc}
use Prim.Native.Nat.{ℕ, zero, suc, ◌-◌, ◌^◌, ◌<◌, ◌≤◌}
use native.Mathlib.Omega.{arith}
use borrow.Author.Tests.{le-leb, leb-true}
use lib.Dec.{leb, ltb}
use lib.Bits.{bit_and}
use lib.Count.{count_trailing_zeros}
use Rattle.marks.specs.RowSet.{bit}
use Rattle.marks.proofs.BitLaws.{bit_zero, LowestBit, lowest_bit, lowest_less}

-- rest has the bits of the word from next on
pub record Left (word next rest : ℕ) : Type 0 where
  pub far : next ≤ 64
  pub small : rest < 2 ^ 64
  pub bits : (i : ℕ) → bit rest i ≡ (leb next i && bit word i)

-- both hold where they hold together
and_left : (s t : Bool) → (s && t) ≡ true → s ≡ true
and_left true t e = refl
and_left false t e = e

and_right : (s t : Bool) → (s && t) ≡ true → t ≡ true
and_right true t e = e
and_right false t e = absurd (true≢false (sym e))

-- at the start the whole word is left
pub left_start : (word : ℕ) → word < 2 ^ 64 → Left word 0 word
left_start word l = record {
  far = omega arith;
  small = l;
  bits = λ i. sym (ap (λ (t : Bool). t && bit word i) (le-leb zero i (omega arith)));
}

module _ {word next rest : ℕ} (s : Left word next rest) where
  -- from next on the word has the bits of the rest
  from_next : (i : ℕ) → next ≤ i → bit word i ≡ bit rest i
  from_next i l = sym (s.bits i ∙ ap (λ (t : Bool). t && bit word i) (le-leb next i l))

  -- where nothing is left the word has no bit from next on
  pub left_none : rest ≡ 0 → (i : ℕ) → next ≤ i → bit word i ≡ false
  left_none z i l = from_next i l ∙ ap (λ (x : ℕ). bit x i) z ∙ bit_zero i

  module _ (some : rest ≡ 0 → ⊥) where
    -- its lowest bit: one of the 64, from next on, a bit of the word, with none before it
    lowest : LowestBit rest (count_trailing_zeros 64 rest) (bit_and rest (rest - 1))
    lowest = (lowest_bit 64 rest s.small some).1

    pub left_high : count_trailing_zeros 64 rest < 64
    left_high = (lowest_bit 64 rest s.small some).0

    both : (leb next (count_trailing_zeros 64 rest) && bit word (count_trailing_zeros 64 rest)) ≡ true
    both = sym (s.bits (count_trailing_zeros 64 rest)) ∙ lowest.set

    pub left_low : next ≤ count_trailing_zeros 64 rest
    left_low = leb-true _ _ (and_left _ (bit word (count_trailing_zeros 64 rest)) both)

    pub left_set : bit word (count_trailing_zeros 64 rest) ≡ true
    left_set = and_right (leb next (count_trailing_zeros 64 rest)) _ both

    pub left_skip : (i : ℕ) → next ≤ i → i < count_trailing_zeros 64 rest → bit word i ≡ false
    left_skip i l h = from_next i l ∙ lowest.below i h

    -- what is after the lowest bit is from next on
    later : (i : ℕ) → (ltb (count_trailing_zeros 64 rest) i && leb next i) ≡ ltb (count_trailing_zeros 64 rest) i
    later i = go (ltb (count_trailing_zeros 64 rest) i) refl
      where
        go : (t : Bool) → ltb (count_trailing_zeros 64 rest) i ≡ t → (t && leb next i) ≡ t
        go true e = le-leb next i (omega (arith, leb-true, left_low))
        go false e = refl

    -- the bit is taken
    pub left_next : Left word (suc (count_trailing_zeros 64 rest)) (bit_and rest (rest - 1))
    left_next = record {
      far = left_high;
      small = omega (arith, lowest_less rest some, s.small);
      bits = λ i. lowest.rest i ∙ ap (λ (t : Bool). ltb (count_trailing_zeros 64 rest) i && t) (s.bits i)
          ∙ sym (and_assoc (ltb (count_trailing_zeros 64 rest) i) (leb next i) (bit word i))
          ∙ ap (λ (t : Bool). t && bit word i) (later i);
    }
