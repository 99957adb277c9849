-- All rows of a set, taken out word by word (`SetWalk`): at the start (`set_start`), what the next word asks for
-- (`set_asks`), after it (`set_sum`, `set_next`), and at the end (`set_done`); the column keeps its length
-- (`set_length`) and holds what is written (`set_index`). Assumes nothing.
use mathlib.Core.Path.{◌≡◌, refl, sym, ap, ap₂, ◌∙◌}
use mathlib.Core.Bool.{Bool, true, false, ◌&&◌}
use mathlib.Core.List.{List, [], ◌++◌, append-nil, append_assoc}
use Prim.Native.Nat.{ℕ, zero, suc, ◌+◌, ◌-◌, ◌*◌, ◌/◌, ◌^◌, ◌<◌, ◌≤◌}
use native.Mathlib.Nat.{add-zero, add-suc, not-suc-le-zero}
use native.Mathlib.Omega.{arith}
use borrow.Author.Tests.{le-leb, lt-leb, leb-true, leb-false, eqb-true, eqb-false}
use borrow.Rule.Slice.PartMut.{mid_of, put_mid}
use lib.Dec.{leb, eqb}
use lib.ListN.{length, set, length-append, length-set, length-take, length-drop}
use lib.Seq.{get_or-set_same, get_or-set_other}
use lib.Bits.{bit_and}
use lib.Count.{count_trailing_zeros}
use Rattle.tree.specs.Table.{at}
use Rattle.tree.specs.Search.{gather, only}
use Rattle.tree.proofs.SearchLaws.{gather_zero, gather_suc, gather_skip, gather_grows, gather_ext}
use Rattle.scan.specs.OneRole.{Wrote}
use Rattle.scan.specs.declared.want.NodeTest.{NodeTest}
use Rattle.scan.specs.Want.{accepts}
use Rattle.marks.specs.RowSet.{bit, has, in_word, Used, WordDrains, Drains, Drained}
use Rattle.marks.proofs.BitsLeftLaws.{Left, left_start, left_none, left_high, left_low, left_skip, left_next}
use Rattle.scan.proofs.WroteLaws.{wrote_none, wrote_length, wrote_part}
use Rattle.marks.proofs.RowSetLaws.{has_word, has_zero, unmarked_zero, blank_used}
use Rattle.marks.proofs.WordLaws.{word_rows}

-- w passes and is not before a
abbrev from_on : (ℕ → Bool) → ℕ → ℕ → Bool
from_on f a w = leb a w && f w

-- none below a is from a on
none_from : (f : ℕ → Bool) (a : ℕ) → gather (from_on f a) (a + 0) ≡ []
none_from f a =
    ap (gather (from_on f a)) (add-zero a)
    ∙ gather_skip (from_on f a) 0 a (omega arith) (λ w l h. ap (λ (t : Bool). t && f w) (lt-leb a w h))
    ∙ gather_zero (from_on f a)

-- those below a + n are those below a and then those from a on
gather_split : (f : ℕ → Bool) (a n : ℕ) → gather f (a + n) ≡ gather f a ++ gather (from_on f a) (a + n)
gather_split f a zero =
    ap (gather f) (add-zero a) ∙ sym (append-nil (gather f a))
    ∙ ap (λ (xs : List ℕ). gather f a ++ xs) (sym (none_from f a))
gather_split f a (suc n) =
    let k : ℕ = a + n in
    ap (gather f) (add-suc a n) ∙ gather_suc f k
    ∙ ap₂ (λ (xs : List ℕ) (t : Bool). xs ++ only (t && f k) k) (gather_split f a n) (sym (le-leb a k (omega arith)))
    ∙ append_assoc (gather f a) (gather (from_on f a) k) (only (from_on f a k) k)
    ∙ ap (λ (xs : List ℕ). gather f a ++ xs) (sym (gather_suc (from_on f a) k))
    ∙ ap (λ (j : ℕ). gather f a ++ gather (from_on f a) j) (sym (add-suc a n))

-- row w is in the set and passes
abbrev holding : (ℕ → Bool) → List ℕ → ℕ → Bool
holding test words w = has words w && test w

-- the rows of the set before row p that pass
abbrev set_rows : (ℕ → Bool) → List ℕ → ℕ → List ℕ
set_rows test words p = gather (λ w. has words w && test w) p

-- from a word's first row to its last, to be in the set is to be in the word
in_word_lem : (test : ℕ → Bool) (words : List ℕ) (j w : ℕ) → w < 64 * j + 64
    → from_on (holding test words) (64 * j) w ≡ (in_word (64 * j) (at words j) w && test w)
unfolding in_word
in_word_lem test words j w h = go (leb (64 * j) w) refl
  where
    go : (t : Bool) → leb (64 * j) w ≡ t
        → (t && (has words w && test w)) ≡ (t && bit (at words j) (w - 64 * j) && test w)
    go true e = ap (λ (s : Bool). s && test w) (has_word words j w (leb-true _ _ e) h)
    go false e = refl

-- the rows of the words up to j are those before word j and those of word j
rows_word : (test : ℕ → Bool) (words : List ℕ) (j : ℕ) → set_rows test words (64 * j + 64)
    ≡ set_rows test words (64 * j) ++ word_rows test (64 * j) (at words j) (64 * j + 64)
rows_word test words j =
    gather_split (holding test words) (64 * j) 64
    ∙ ap (λ (xs : List ℕ). set_rows test words (64 * j) ++ xs) (gather_ext _ _ (64 * j + 64) (in_word_lem test words j))

-- the words before next are cleared and their rows that pass are written; the others are as they were, and left marks
-- those of them that are not 0
pub record SetWalk (test : ℕ → Bool) (old : List ℕ) (used : ℕ) (out₀ words out : List ℕ) (left m : ℕ) : Type 0 where
  pub next : ℕ
  pub rest : Left used next left
  pub cleared : (j : ℕ) → j < next → at words j ≡ 0
  pub kept : (j : ℕ) → next ≤ j → at words j ≡ at old j
  pub long : length words ≡ 64
  pub wrote : Wrote (set_rows test old (64 * next)) out₀ m out

-- no word is taken yet
pub set_start : (test : ℕ → Bool) (old : List ℕ) (used : ℕ) (out₀ : List ℕ) → length old ≡ 64 → used < 2 ^ 64
    → SetWalk test old used out₀ old out₀ used 0
set_start test old used out₀ l s = record {
  next = 0;
  rest = left_start used s;
  cleared = λ j h. absurd (not-suc-le-zero h);
  kept = λ j h. refl;
  long = l;
  wrote = rw (gather_zero (holding test old)) (wrote_none out₀);
}

module _ {asks : NodeTest} {n : ℕ} {old : List ℕ} {used : ℕ} {out₀ : List ℕ}
    (pre : Drains asks n old out₀) (marks : Used old used) where
  abbrev test : ℕ → Bool
  test = accepts asks

  -- no row from n on is in the set
  above : (w : ℕ) → n ≤ w → w < 4096 → has old w ≡ false
  above w l h = go (has old w) refl
    where
      go : (t : Bool) → has old w ≡ t → t ≡ false
      go true e = absurd (omega (arith, pre.below w h e))
      go false e = refl

  -- so the rows below n are all
  all_rows : set_rows test old n ≡ set_rows test old 4096
  all_rows =
      sym (gather_skip (holding test old) n 4096 pre.few (λ w l h. ap (λ (t : Bool). t && test w) (above w l h)))

  -- whatever is settled has room
  within : (p : ℕ) → p ≤ 4096 → length (set_rows test old p) ≤ length out₀
  within p l = omega (arith, ap length all_rows, gather_grows (holding test old) p 4096 l, pre.room)

  module _ {words out : List ℕ} {left m : ℕ} (s : SetWalk test old used out₀ words out left m) where
    room : length (set_rows test old (64 * s.next)) ≤ length out₀
    room = within (64 * s.next) (omega (arith, s.rest.far))

    -- the column keeps its length, and holds what is written
    pub set_length : length out ≡ length out₀
    set_length = wrote_length s.wrote room

    pub set_index : m ≤ length out
    set_index = omega (arith, s.wrote.many, set_length, room)

    -- words from next on that are not marked hold no rows
    settled : (j : ℕ) → s.next ≤ j → j ≤ 64 → ((i : ℕ) → s.next ≤ i → i < j → bit used i ≡ false)
        → set_rows test old (64 * j) ≡ set_rows test old (64 * s.next)
    settled j l h none =
        gather_skip (holding test old) (64 * s.next) (64 * j) (omega arith)
        (λ w a b.
        let e : bit used (w / 64) ≡ false = none (w / 64) (omega arith) (omega arith) in
        ap (λ (t : Bool). t && test w) (has_zero old w (unmarked_zero marks (omega arith) e)))

    -- a word that is not marked, if it is from next on, is 0
    clear : (j : ℕ) → j < 64 → (s.next ≤ j → bit used j ≡ false) → at words j ≡ 0
    clear j l none = go (leb s.next j) refl
      where
        go : (t : Bool) → leb s.next j ≡ t → at words j ≡ 0
        go true e = let h : s.next ≤ j = leb-true _ _ e in s.kept j h ∙ unmarked_zero marks l (none h)
        go false e = s.cleared j (leb-false _ _ e)

    -- no word is left
    pub set_done : left ≡ 0 → Drained asks n old out₀ m words out
    set_done z =
        let none : (i : ℕ) → s.next ≤ i → bit used i ≡ false = left_none s.rest z in
        record {
          wrote = rw (all_rows ∙ settled 64 s.rest.far (omega arith) (λ i l h. none i l)) s.wrote;
          blank = record { zero = λ j l. clear j l (none j) };
        }

    pub set_used : left ≡ 0 → Used words 0
    set_used z = blank_used s.long (set_done z).blank

    -- a word is left: the lowest is the next
    module _ (some : left ≡ 0 → ⊥) where
      abbrev word : ℕ
      word = count_trailing_zeros 64 left

      -- the rows of that word that pass
      abbrev rows : List ℕ
      rows = word_rows test (64 * word) (at words word) (64 * word + 64)

      -- they are the next rows of the set
      rows_more : set_rows test old (64 * suc word) ≡ set_rows test old (64 * s.next) ++ rows
      rows_more =
          let e : 64 * suc word ≡ 64 * word + 64 = omega arith in
          let low : s.next ≤ word = left_low s.rest some in
          let high : word ≤ 64 = omega (arith, left_high s.rest some) in
          ap (set_rows test old) e ∙ rows_word test old word
          ∙ ap₂ (λ (xs : List ℕ) (x : ℕ). xs ++ word_rows test (64 * word) x (64 * word + 64))
          (settled word low high (left_skip s.rest some)) (sym (s.kept word low))

      -- they have room after those before them
      both_fit : m + length rows ≤ length out₀
      both_fit =
          let high : 64 * suc word ≤ 4096 = omega (arith, left_high s.rest some) in
          omega (arith, s.wrote.many, simp length-append at (ap length rows_more), within (64 * suc word) high)

      -- a row of that word is in use
      in_use : (b : ℕ) → b < 64 → bit (at words word) b ≡ true → 64 * word + b < n
      in_use b l e =
          let i : 64 * word + b - 64 * word ≡ b = omega arith in
          let high : word < 64 = left_high s.rest some in
          pre.below (64 * word + b) (omega arith)
          (has_word old word (64 * word + b) (omega arith) (omega arith)
          ∙ ap₂ bit (sym (s.kept word (left_low s.rest some))) i ∙ e)

      -- its rows can be taken out
      pub set_asks : WordDrains asks (64 * word) (at words word) (mid_of m (length out - m) out)
      set_asks = record {
        low = omega (arith, left_high s.rest some);
        in_kind = λ b l e. omega (arith, in_use b l e, pre.in_kind);
        in_name = λ b l e. omega (arith, in_use b l e, pre.in_name);
        room = simp (length-take, length-drop) (omega (arith, set_length, both_fit));
      }

      -- the words up to it are 0 once it is
      emptied : (j : ℕ) → j < suc word → (t : Bool) → eqb j word ≡ t → at (set words word 0) j ≡ 0
      emptied j h true e =
          let high : word < length words = omega (arith, left_high s.rest some, s.long) in
          ap (at (set words word 0)) (eqb-true _ _ e) ∙ get_or-set_same words word 0 0 high
      emptied j h false e =
          let o : j ≡ word → ⊥ = eqb-false _ _ e in
          let b : j < word = omega arith in
          let high : j < 64 = omega (arith, left_high s.rest some) in
          get_or-set_other words word j 0 0 o ∙ clear j high (λ l. left_skip s.rest some j l b)

      -- they are taken out
      module _ {k : ℕ} {part : List ℕ} (t : Wrote rows (mid_of m (length out - m) out) k part) where
        pub set_sum : m + k ≤ length out₀
        set_sum = omega (arith, t.many, both_fit)

        pub set_next : SetWalk test old used out₀ (set words word 0) (put_mid m (length out - m) out part)
            (bit_and left (left - 1)) (m + k)
        set_next = record {
          next = suc word;
          rest = left_next s.rest some;
          cleared = λ j h. emptied j h (eqb j word) refl;
          kept = λ j h. get_or-set_other words word j 0 0 (omega arith)
              ∙ s.kept j (omega (arith, left_low s.rest some));
          long = length-set words word 0 ∙ s.long;
          wrote = rw rows_more (wrote_part s.wrote t);
        }
