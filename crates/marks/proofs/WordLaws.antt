-- One word's rows, taken out lowest first (`WordWalk`): at the start (`word_start`), past a row that does not pass
-- (`word_no`), with one that does (`word_index`, `word_yes`), and at the end (`word_done`); the column keeps its
-- length (`word_length`). Assumes nothing.
use mathlib.Core.Path.{◌≡◌, sym, ap, ap₂, ◌∙◌}
use mathlib.Core.Bool.{Bool, true, false, ◌&&◌, and-false}
use mathlib.Core.List.{List, [], ◌∷◌, ◌++◌}
use Prim.Native.Nat.{ℕ, suc, ◌+◌, ◌-◌, ◌^◌, ◌<◌, ◌≤◌}
use native.Mathlib.Nat.{add-zero, add-suc}
use native.Mathlib.Omega.{arith}
use borrow.Author.Tests.{le-leb, lt-leb}
use lib.Dec.{leb}
use lib.ListN.{length, set, length-append}
use lib.Bits.{bit_and}
use lib.Count.{count_trailing_zeros}
use Rattle.tree.specs.Search.{gather}
use Rattle.tree.proofs.SearchLaws.{gather_zero, gather_skip, gather_yes, gather_no, gather_grows}
use Rattle.scan.specs.OneRole.{Wrote}
use Rattle.marks.specs.RowSet.{bit, in_word}
use Rattle.marks.proofs.BitsLeftLaws.{Left, left_start, left_none, left_next}
use Rattle.marks.proofs.BitsLeftLaws.{left_high, left_low, left_set, left_skip}
use Rattle.scan.proofs.WroteLaws.{wrote_none, wrote_length, wrote_more}

-- a row before the word is not in it
word_before : (base word w : ℕ) → w < base → in_word base word w ≡ false
unfolding in_word
word_before base word w l = ap (λ (t : Bool). t && bit word (w - base)) (lt-leb base w l)

-- nor is one whose bit is not set
word_unset : (base word w : ℕ) → bit word (w - base) ≡ false → in_word base word w ≡ false
unfolding in_word
word_unset base word w e = ap (λ (t : Bool). leb base w && t) e ∙ and-false (leb base w)

-- bit b is row base + b
word_bit : (base word b : ℕ) → in_word base word (base + b) ≡ bit word b
unfolding in_word
word_bit base word b =
    let e : base + b - base ≡ b = omega arith in
    ap₂ ◌&&◌ (le-leb base (base + b) (omega arith)) (ap (bit word) e)

-- row w is in the word and passes
abbrev passing : (ℕ → Bool) → ℕ → ℕ → ℕ → Bool
passing test base word w = in_word base word w && test w

-- the rows of the word before row p that pass
abbrev pub word_rows : (ℕ → Bool) → ℕ → ℕ → ℕ → List ℕ
word_rows test base word p = gather (λ w. in_word base word w && test w) p

-- the rows of the word before base + next that pass are written, and rest has the bits from next on
pub record WordWalk (test : ℕ → Bool) (base word : ℕ) (old out : List ℕ) (rest at : ℕ) : Type 0 where
  pub next : ℕ
  pub left : Left word next rest
  pub wrote : Wrote (word_rows test base word (base + next)) old at out

module _ (test : ℕ → Bool) (base word : ℕ) (old : List ℕ) where
  -- a row whose bit is not set does not pass
  unset_fails : (w : ℕ) → bit word (w - base) ≡ false → passing test base word w ≡ false
  unset_fails w e = ap (λ (t : Bool). t && test w) (word_unset base word w e)

  -- no row before the word is one of its
  none_before : word_rows test base word (base + 0) ≡ []
  none_before =
      ap (word_rows test base word) (add-zero base)
      ∙ gather_skip (passing test base word) 0 base (omega arith)
      (λ w m h. ap (λ (t : Bool). t && test w) (word_before base word w h))
      ∙ gather_zero (passing test base word)

  -- no bit is taken yet
  pub word_start : word < 2 ^ 64 → WordWalk test base word old old word 0
  word_start l = record { next = 0; left = left_start word l; wrote = rw none_before (wrote_none old) }

  module _ {out : List ℕ} {rest at : ℕ} (s : WordWalk test base word old out rest at) where
    -- no bit is left: all rows of the word are settled
    pub word_done : rest ≡ 0 → Wrote (word_rows test base word (base + 64)) old at out
    word_done z =
        let all : word_rows test base word (base + 64) ≡ word_rows test base word (base + s.next) =
        gather_skip (passing test base word) (base + s.next) (base + 64) (omega (arith, s.left.far))
        (λ w l h. unset_fails w (left_none s.left z (w - base) (omega arith))) in
        rw all s.wrote

    module _ (room : length (word_rows test base word (base + 64)) ≤ length old) where
      -- the column keeps its length
      pub word_length : length out ≡ length old
      word_length =
          let far : base + s.next ≤ base + 64 = omega (arith, s.left.far) in
          let grows = gather_grows (passing test base word) (base + s.next) (base + 64) far in
          wrote_length s.wrote (omega arith)

      -- a bit is left: the lowest is the next row, and its test has an answer
      module _ (some : rest ≡ 0 → ⊥) {answer : Bool}
          (tested : answer ≡ test (base + count_trailing_zeros 64 rest)) where
        abbrev row : ℕ
        row = base + count_trailing_zeros 64 rest

        abbrev after : ℕ
        after = base + suc (count_trailing_zeros 64 rest)

        -- the rows before it add nothing
        settled : word_rows test base word row ≡ word_rows test base word (base + s.next)
        settled =
            let low : s.next ≤ count_trailing_zeros 64 rest = left_low s.left some in
            gather_skip (passing test base word) (base + s.next) row (omega arith)
            (λ w l h. unset_fails w (left_skip s.left some (w - base) (omega arith) (omega arith)))

        -- it is in the word, so its test decides
        row_test : passing test base word row ≡ answer
        row_test =
            ap₂ ◌&&◌ (word_bit base word (count_trailing_zeros 64 rest) ∙ left_set s.left some) (sym tested)

        -- it does not pass: nothing is written
        pub word_no : answer ≡ false → WordWalk test base word old out (bit_and rest (rest - 1)) at
        word_no e =
            let same : word_rows test base word after ≡ word_rows test base word (base + s.next) =
            ap (word_rows test base word) (add-suc base (count_trailing_zeros 64 rest))
            ∙ gather_no (passing test base word) row (row_test ∙ e) ∙ settled in
            record {
              next = suc (count_trailing_zeros 64 rest);
              left = left_next s.left some;
              wrote = rw same s.wrote;
            }

        -- it passes: it is written
        module _ (passes : answer ≡ true) where
          more : word_rows test base word after ≡ word_rows test base word (base + s.next) ++ (row ∷ [])
          more =
              ap (word_rows test base word) (add-suc base (count_trailing_zeros 64 rest))
              ∙ gather_yes (passing test base word) row (row_test ∙ passes)
              ∙ ap (λ (xs : List ℕ). xs ++ (row ∷ [])) settled

          -- there is room for it
          fewer : length (word_rows test base word (base + s.next)) < length old
          fewer =
              let high : after ≤ base + 64 = omega (arith, left_high s.left some) in
              omega (
                arith,
                simp length-append at (ap length more),
                gather_grows (passing test base word) after (base + 64) high,
              )

          pub word_index : at < length out
          word_index = omega (arith, s.wrote.many, fewer, word_length)

          pub word_yes : WordWalk test base word old (set out at row) (bit_and rest (rest - 1)) (at + 1)
          word_yes = record {
            next = suc (count_trailing_zeros 64 rest);
            left = left_next s.left some;
            wrote = rw more (wrote_more s.wrote row fewer);
          }
