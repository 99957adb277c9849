-- Rows of one word, put into the set by their bits: `add_joined`, `add_used`; a word of one row: `one_some`, `one_row`.
-- Assumes nothing.
use mathlib.Core.Path.{◌≡◌, refl, sym, ap, ap₂, ◌∙◌}
use mathlib.Core.Logic.{⊎_elim}
use mathlib.Core.Bool.{Bool, true, false, not, ◌&&◌, ◌||◌, or-false, or-true, or_comm}
use mathlib.Core.List.{List}
use Prim.Native.Nat.{ℕ, ◌+◌, ◌-◌, ◌*◌, ◌/◌, ◌%◌, ◌^◌, ◌<◌, ◌≤◌}
use native.Mathlib.Omega.{arith}
use borrow.Author.Tests.{eq-eqb, ne_eqb, eqb-true, eqb-false, leb-true, le-leb}
use lib.Dec.{eqb, leb}
use lib.ListN.{set, length-set}
use lib.Seq.{get_or-set_same, get_or-set_other}
use lib.Bits.{bit_or, or_add_and, and_le_l}
use Rattle.tree.specs.Table.{at}
use Rattle.tree.proofs.TreeLaws.{less?}
use Rattle.tree.proofs.SoundLaws.{both, both_of}
use Rattle.tree.proofs.AxisLaws.{same_test}
use Rattle.marks.specs.RowSet.{bit, has, in_word, Used}
use Rattle.marks.specs.Mark.{Joined}
use Rattle.marks.proofs.BitLaws.{bit_or_lem, bit_high, bit_nonzero, bit_pow}
use Rattle.marks.proofs.RowSetLaws.{bit_with}

-- a row of the word, by its bit; any other is not in it
in_word_bit : (j word w : ℕ) → w / 64 ≡ j → in_word (64 * j) word w ≡ bit word (w % 64)
unfolding in_word
in_word_bit j word w e =
    let b : w - 64 * j ≡ w % 64 = omega arith in
    ap₂ ◌&&◌ (le-leb (64 * j) w (omega arith)) (ap (bit word) b)

in_word_not : (j word w : ℕ) → word < 2 ^ 64 → (w / 64 ≡ j → ⊥) → in_word (64 * j) word w ≡ false
unfolding in_word
in_word_not j word w l n = go (leb (64 * j) w) refl
  where
    go : (t : Bool) → leb (64 * j) w ≡ t → (t && bit word (w - 64 * j)) ≡ false
    go true e =
        let h : 64 * j ≤ w = leb-true _ _ e in
        let far : 64 * j + 64 ≤ w = ⊎_elim
        (λ (q : w < 64 * j + 64). absurd (n (omega arith)))
        (λ (q : 64 * j + 64 ≤ w). q)
        (less? w (64 * j + 64)) in
        bit_high word 64 (w - 64 * j) l (omega arith)
    go false e = refl

-- the words with the bits in word j
abbrev with_bits : List ℕ → ℕ → ℕ → List ℕ
with_bits words j bits = set words j (bit_or (at words j) bits)

module _ {words : List ℕ} {used : ℕ} (s : Used words used) (j bits : ℕ) (low : j < 64) where
  -- word j has the bits, and the others are as they were
  at_same : (i : ℕ) → i ≡ j → at (with_bits words j bits) i ≡ bit_or (at words j) bits
  at_same i e = ap (at (with_bits words j bits)) e ∙ get_or-set_same words j _ 0 (omega (arith, s.long))

  at_other : (i : ℕ) → (i ≡ j → ⊥) → at (with_bits words j bits) i ≡ at words i
  at_other i n = get_or-set_other words j i _ 0 n

  -- the words that are not 0 are those of before and word j
  with_marks : (bits ≡ 0 → ⊥) → (i : ℕ) → i < 64
      → bit (bit_or used (2 ^ j)) i ≡ not (eqb (at (with_bits words j bits) i) 0)
  with_marks some i l = bit_with used j i ∙ go (eqb i j) refl
    where
      go : (t : Bool) → eqb i j ≡ t → (bit used i || t) ≡ not (eqb (at (with_bits words j bits) i) 0)
      go true e =
          let more : bits ≤ bit_or (at words j) bits =
          omega (arith, or_add_and (at words j) bits, and_le_l (at words j) bits) in
          or-true (bit used i)
          ∙ sym (ap not (ne_eqb (bit_or (at words j) bits) 0 (λ z. some (omega arith))))
          ∙ ap (λ (n : ℕ). not (eqb n 0)) (sym (at_same i (eqb-true _ _ e)))
      go false e =
          or-false (bit used i) ∙ s.marks i l
          ∙ ap (λ (n : ℕ). not (eqb n 0)) (sym (at_other i (eqb-false _ _ e)))

  -- the rows are those of before and those of the bits
  with_rows : bits < 2 ^ 64 → (w : ℕ) → has (with_bits words j bits) w ≡ (in_word (64 * j) bits w || has words w)
  unfolding has
  with_rows m w = go (eqb (w / 64) j) refl
    where
      go : (t : Bool) → eqb (w / 64) j ≡ t
          → has (with_bits words j bits) w ≡ (in_word (64 * j) bits w || has words w)
      go true e =
          let h : w / 64 ≡ j = eqb-true _ _ e in
          ap (λ (n : ℕ). bit n (w % 64)) (at_same (w / 64) h) ∙ bit_or_lem (at words j) bits (w % 64)
          ∙ ap₂ ◌||◌ (ap (λ (n : ℕ). bit (at words n) (w % 64)) (sym h)) (sym (in_word_bit j bits w h))
          ∙ or_comm (has words w) (in_word (64 * j) bits w)
      go false e =
          let n : w / 64 ≡ j → ⊥ = eqb-false _ _ e in
          ap (λ (n : ℕ). bit n (w % 64)) (at_other (w / 64) n)
          ∙ ap (λ (t : Bool). t || has words w) (sym (in_word_not j bits w m n))

  -- the rows are put in
  pub add_joined : bits < 2 ^ 64 → Joined (in_word (64 * j) bits) words (with_bits words j bits)
  add_joined m = record { rows = λ w l. with_rows m w }

  pub add_used : (bits ≡ 0 → ⊥) → Used (with_bits words j bits) (bit_or used (2 ^ j))
  add_used some = record { long = length-set words j _ ∙ s.long; marks = with_marks some }

-- a word with one bit is not 0
pub one_some : (b : ℕ) → 2 ^ b ≡ 0 → ⊥
one_some b = bit_nonzero (2 ^ b) b (bit_pow b b ∙ eq-eqb b b refl)

-- the word of row x with its bit alone
pub one_row : (x w : ℕ) → in_word (64 * (x / 64)) (2 ^ (x % 64)) w ≡ eqb w x
unfolding in_word
one_row x w = ap (λ (t : Bool). leb (64 * (x / 64)) w && t) (bit_pow (x % 64) (w - 64 * (x / 64))) ∙ same_test _ _
    (λ t. let y = both (leb (64 * (x / 64)) w) (eqb (w - 64 * (x / 64)) (x % 64)) t in
    let l : 64 * (x / 64) ≤ w = leb-true _ _ y.0 in
    let e : w - 64 * (x / 64) ≡ x % 64 = eqb-true _ _ y.1 in
    eq-eqb w x (omega arith))
    (λ t. let e : w ≡ x = eqb-true w x t in
    both_of (le-leb (64 * (x / 64)) w (omega arith)) (eq-eqb (w - 64 * (x / 64)) (x % 64) (omega arith)))
