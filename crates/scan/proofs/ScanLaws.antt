-- The rows of a range that pass, `rows-..`; the loop that appends them, `scan-..`; a range that is scanned as a part
-- of the columns, `range-..`; a range of at most one row, `one-..`. Assumes nothing.
use mathlib.Core.Path.{◌≡◌, refl, sym, ap, ap₂, subst, subst₂, ◌∙◌}
use mathlib.Core.Logic.{⊎_elim}
use mathlib.Core.Bool.{Bool, true, false, ◌&&◌}
use mathlib.Core.List.{List, [], ◌∷◌, ◌++◌, append_assoc, append-nil}
use Prim.Native.Nat.{ℕ, zero, suc, ◌+◌, ◌-◌, ◌^◌, ◌<◌, ◌≤◌}
use native.Mathlib.Nat.{le_refl, le_of_suc-le-suc, eq-or-lt_of_le, add-zero, add-suc}
use native.Mathlib.Numerals.{add-one}
use native.Mathlib.Omega.{arith}
use borrow.Author.Tests.{le-leb, lt-leb}
use lib.Dec.{leb}
use lib.ListN.{length, take, drop, set, length-append, length-take, length-drop}
use Rattle.tree.specs.Search.{gather, only}
use Rattle.tree.proofs.SearchLaws.{only_none, only_one, gather_zero, gather_suc, gather_skip}
use Rattle.scan.specs.Want.{NodeTest, accepts}
use Rattle.scan.specs.Range.{rows_from, rows_in, Appended, ScanIn, RangeIn}
use Rattle.scan.proofs.AppendedLaws.{appended_as, appended_none, appended_more, appended_length}

-- ── the rows ──
module _ (from : ℕ) (f : ℕ → Bool) where
  pub rows_none : rows_from from f zero ≡ []
  unfolding rows_from
  rows_none = refl

  pub rows_suc : (k : ℕ) → rows_from from f (suc k) ≡ rows_from from f k ++ only (f k) (from + k)
  unfolding rows_from
  rows_suc k = refl

  -- a row that does not pass, and one that does
  pub rows_no : (k : ℕ) → f k ≡ false → rows_from from f (k + 1) ≡ rows_from from f k
  rows_no k e =
      ap (rows_from from f) (add-one k) ∙ rows_suc k
      ∙ ap (λ (l : List ℕ). rows_from from f k ++ l) (only_none (f k) (from + k) e)
      ∙ append-nil (rows_from from f k)

  pub rows_yes : (k : ℕ) → f k ≡ true → rows_from from f (k + 1) ≡ rows_from from f k ++ ((from + k) ∷ [])
  rows_yes k e =
      ap (rows_from from f) (add-one k) ∙ rows_suc k
      ∙ ap (λ (l : List ℕ). rows_from from f k ++ l) (only_one (f k) (from + k) e)

  more : (b : ℕ) → length (rows_from from f (suc b)) ≡ length (rows_from from f b) + length (only (f b) (from + b))
  more b = ap length (rows_suc b) ∙ length-append (rows_from from f b) (only (f b) (from + b))

  pub rows_grow : (a b : ℕ) → a ≤ b → length (rows_from from f a) ≤ length (rows_from from f b)
  rows_grow a zero l = let e : a ≡ zero = omega arith in rw e (le_refl (length (rows_from from f zero)))
  rows_grow a (suc b) l = ⊎_elim
      (λ e. rw e (le_refl (length (rows_from from f (suc b)))))
      (λ m. omega (arith, more b, rows_grow a b (le_of_suc-le-suc m)))
      (eq-or-lt_of_le l)

-- two tests that agree at each of the rows
pub rows_ext : (from : ℕ) (f g : ℕ → Bool) (k : ℕ) → ((i : ℕ) → i < k → f i ≡ g i)
    → rows_from from f k ≡ rows_from from g k
rows_ext from f g zero h = rows_none from f ∙ sym (rows_none from g)
rows_ext from f g (suc k) h =
    rows_suc from f k
    ∙ ap₂ (λ (l : List ℕ) (b : Bool). l ++ only b (from + k))
    (rows_ext from f g k (λ i l. h i (omega arith))) (h k (le_refl (suc k)))
    ∙ sym (rows_suc from g k)

-- rows that do not pass add nothing
rows_stop : (from : ℕ) (f : ℕ → Bool) (j k : ℕ) → j ≤ k → ((i : ℕ) → j ≤ i → i < k → f i ≡ false)
    → rows_from from f k ≡ rows_from from f j
rows_stop from f j zero l h = ap (rows_from from f) (let e : zero ≡ j = omega arith in e)
rows_stop from f j (suc k) l h = ⊎_elim
    (λ e. ap (rows_from from f) (sym e))
    (λ m. rows_suc from f k
    ∙ ap (λ (xs : List ℕ). rows_from from f k ++ xs)
    (only_none (f k) (from + k) (h k (le_of_suc-le-suc m) (le_refl (suc k))))
    ∙ append-nil (rows_from from f k)
    ∙ rows_stop from f j k (le_of_suc-le-suc m) (λ i x y. h i x (omega arith)))
    (eq-or-lt_of_le l)

-- rows at the end of a range that do not pass add nothing
pub rows_ended : (f : ℕ → Bool) (from a b : ℕ) → a ≤ b → ((w : ℕ) → a ≤ w → w < b → f w ≡ false)
    → rows_in f from b ≡ rows_in f from a
rows_ended f from a b l h =
    rows_stop from (λ k. f (from + k)) (a - from) (b - from) (omega arith)
    (λ i x y. h (from + i) (omega arith) (omega arith))

-- one row more at the end of a range
pub rows_last : (f : ℕ → Bool) (from v : ℕ) → from ≤ v → rows_in f from (suc v) ≡ rows_in f from v ++ only (f v) v
rows_last f from v l =
    ap (rows_from from (λ k. f (from + k))) (let e : suc v - from ≡ suc (v - from) = omega arith in e)
    ∙ rows_suc from (λ k. f (from + k)) (v - from)
    ∙ ap (λ (w : ℕ). rows_in f from v ++ only (f w) w) (let e : from + (v - from) ≡ v = omega arith in e)

-- what passes below a row, and then the k rows from there on
rows_after_lem : (f : ℕ → Bool) (from k : ℕ)
    → gather f (from + k) ≡ gather f from ++ rows_from from (λ i. f (from + i)) k
rows_after_lem f from zero =
    ap (gather f) (add-zero from)
    ∙ sym (ap (λ (l : List ℕ). gather f from ++ l) (rows_none from (λ i. f (from + i))) ∙ append-nil (gather f from))
rows_after_lem f from (suc k) =
    ap (gather f) (add-suc from k) ∙ gather_suc f (from + k)
    ∙ ap (λ (l : List ℕ). l ++ only (f (from + k)) (from + k)) (rows_after_lem f from k)
    ∙ append_assoc (gather f from) (rows_from from (λ i. f (from + i)) k) (only (f (from + k)) (from + k))
    ∙ ap (λ (l : List ℕ). gather f from ++ l) (sym (rows_suc from (λ i. f (from + i)) k))

-- what passes below the end of a range
pub rows_join : (f : ℕ → Bool) (from to : ℕ) → from ≤ to → gather f to ≡ gather f from ++ rows_in f from to
rows_join f from to l =
    ap (gather f) (let e : to ≡ from + (to - from) = omega arith in e) ∙ rows_after_lem f from (to - from)

-- two tests that agree in a range
pub rows_same : (f g : ℕ → Bool) (from to : ℕ) → ((w : ℕ) → from ≤ w → w < to → f w ≡ g w)
    → rows_in f from to ≡ rows_in g from to
rows_same f g from to h =
    rows_ext from (λ k. f (from + k)) (λ k. g (from + k)) (to - from)
    (λ i l. h (from + i) (omega arith) (omega arith))

-- the rows from a row on as all rows that pass and are not before it
rows_from_on : (f : ℕ → Bool) (from to : ℕ) → from ≤ to → gather (λ w. leb from w && f w) to ≡ rows_in f from to
rows_from_on f from to l =
    rows_join (λ w. leb from w && f w) from to l
    ∙ ap₂ ◌++◌
    (gather_skip (λ w. leb from w && f w) 0 from (omega arith) (λ w x y. ap (λ (b : Bool). b && f w) (lt-leb from w y))
    ∙ gather_zero (λ w. leb from w && f w))
    (rows_same (λ w. leb from w && f w) f from to (λ w x y. ap (λ (b : Bool). b && f w) (le-leb from w x)))

-- a range, cut in two
pub rows_cut : (f : ℕ → Bool) (from mid to : ℕ) → from ≤ mid → mid ≤ to
    → rows_in f from to ≡ rows_in f from mid ++ rows_in f mid to
rows_cut f from mid to l m =
    sym (rows_from_on f from to (omega arith))
    ∙ rows_join (λ w. leb from w && f w) mid to m
    ∙ ap₂ ◌++◌ (rows_from_on f from mid l)
    (rows_same (λ w. leb from w && f w) f mid to (λ w x y. ap (λ (b : Bool). b && f w) (le-leb from w (omega arith))))

-- a range in which none passes
pub rows_skip : (f : ℕ → Bool) (from to : ℕ) → ((w : ℕ) → from ≤ w → w < to → f w ≡ false) → rows_in f from to ≡ []
rows_skip f from to h =
    rows_same f (λ w. false) from to h ∙ nothing (to - from)
  where
    nothing : (k : ℕ) → rows_from from (λ i. false) k ≡ []
    nothing zero = rows_none from (λ i. false)
    nothing (suc k) = rows_suc from (λ i. false) k ∙ ap (λ (l : List ℕ). l ++ []) (nothing k)

-- ── the loop ──
-- the first i rows that pass are appended, and next is the number of the next result
pub record Scanning (from : ℕ) (f : ℕ → Bool) (k : ℕ) (d : List ℕ) (written : ℕ) (out : List ℕ) (next i : ℕ)
    : Type 0 where
  pub index : i ≤ k
  pub appends : Appended (rows_from from f i) d written next out

module _ {from : ℕ} {f : ℕ → Bool} {k : ℕ} {d : List ℕ} {written : ℕ} where
  pub scan_start : Scanning from f k d written d written 0
  scan_start = record { index = omega arith; appends = appended_as (sym (rows_none from f)) (appended_none d written) }

  module _ (asks : ScanIn from f k d written) {out : List ℕ} {next i : ℕ}
      (s : Scanning from f k d written out next i) where
    pub scan_length : length out ≡ length d
    scan_length = appended_length s.appends (omega (arith, asks.room, rows_grow from f i k s.index))

    one_more : f i ≡ true → length (rows_from from f (i + 1)) ≡ length (rows_from from f i) + 1
    one_more e = ap length (rows_yes from f i e) ∙ length-append (rows_from from f i) ((from + i) ∷ [])

    inside : i < k → f i ≡ true → next < length d
    inside less e =
        omega (arith, s.appends.many, asks.room, one_more e, rows_grow from f (i + 1) k (omega arith))

    -- there is room for a row that passes
    pub scan_index : i < k → f i ≡ true → next < length out
    scan_index less e = omega (arith, inside less e, scan_length)

    module _ (less : i < k) {after : List ℕ} {then : ℕ} where
      -- a row that does not pass
      pub scan_no : f i ≡ false → after ≡ out → then ≡ next → Scanning from f k d written after then (i + 1)
      scan_no e p q =
          subst₂ (λ (o : List ℕ) (m : ℕ). Scanning from f k d written o m (i + 1)) (sym p) (sym q)
          (record { index = omega arith; appends = appended_as (sym (rows_no from f i e)) s.appends })

      -- a row that passes
      pub scan_yes : f i ≡ true → after ≡ set out next (from + i) → then ≡ next + 1
          → Scanning from f k d written after then (i + 1)
      scan_yes e p q =
          subst₂ (λ (o : List ℕ) (m : ℕ). Scanning from f k d written o m (i + 1)) (sym p) (sym q)
          (record {
            index = omega arith;
            appends = appended_as (sym (rows_yes from f i e)) (appended_more (from + i) s.appends (inside less e));
          })

    pub scan_done : k ≤ i → Appended (rows_from from f k) d written next out
    scan_done h =
        subst (λ (j : ℕ). Appended (rows_from from f j) d written next out)
        (let e : i ≡ k = omega (arith, s.index) in e) s.appends

-- ── a range, scanned as a part of the columns ──
-- k entries of a part are the rows of the range, and pass the part's test exactly if they fit
module _ {test : NodeTest} {out : List ℕ} {from to written : ℕ}
    (asks : RangeIn test from to out written)
    {g : ℕ → Bool} {k : ℕ} (count : k ≡ to - from)
    (same : (i : ℕ) → i < to - from → g i ≡ accepts test (from + i)) where
  range_rows : rows_from from g k ≡ rows_in (accepts test) from to
  range_rows = ap (rows_from from g) count ∙ rows_ext from g (λ i. accepts test (from + i)) (to - from) same

  pub range_asks : to < 2 ^ 64 → ScanIn from g k out written
  range_asks l = record {
    numbers = omega (arith, asks.order);
    room = omega (arith, asks.room, ap length range_rows);
  }

  pub range_gives : {r : ℕ} {new : List ℕ} → Appended (rows_from from g k) out written r new
      → Appended (rows_in (accepts test) from to) out written r new
  range_gives h = appended_as range_rows h

-- a part of a column that has the range is as long as the range
pub part_length : (column : List ℕ) (from to : ℕ) → to ≤ length column
    → length (take (to - from) (drop from column)) ≡ to - from
part_length column from to l = simp (length-take, length-drop) (omega arith)

-- ── a range of at most one row ──
pub rows_empty : (f : ℕ → Bool) (from to : ℕ) → to ≤ from → rows_in f from to ≡ []
rows_empty f from to l =
    ap (rows_from from (λ k. f (from + k))) (let e : to - from ≡ 0 = omega arith in e)
    ∙ rows_none from (λ k. f (from + k))

pub rows_one : (f : ℕ → Bool) (from to : ℕ) → from < to → to ≤ from + 1 → rows_in f from to ≡ only (f from) from
rows_one f from to l m =
    ap (rows_from from (λ k. f (from + k))) (let e : to - from ≡ 1 = omega arith in e)
    ∙ rows_suc from (λ k. f (from + k)) 0
    ∙ ap (λ (xs : List ℕ). xs ++ only (f (from + 0)) (from + 0)) (rows_none from (λ k. f (from + k)))
    ∙ ap (λ (w : ℕ). only (f w) w) (add-zero from)

module _ {test : NodeTest} {out : List ℕ} {from to written : ℕ}
    (asks : RangeIn test from to out written) where
  -- no row
  pub one_none : to ≤ from → Appended (rows_in (accepts test) from to) out written written out
  one_none l = appended_as (sym (rows_empty (accepts test) from to l)) (appended_none out written)

  module _ (less : from < to) (most : to ≤ from + 1) where
    the_row : rows_in (accepts test) from to ≡ only (accepts test from) from
    the_row = rows_one (accepts test) from to less most

    -- a row that does not fit
    pub one_no : accepts test from ≡ false
        → Appended (rows_in (accepts test) from to) out written written out
    one_no e = appended_as (sym (the_row ∙ only_none (accepts test from) from e)) (appended_none out written)

    fitting : accepts test from ≡ true → rows_in (accepts test) from to ≡ from ∷ []
    fitting e = the_row ∙ only_one (accepts test from) from e

    -- there is room for a row that fits
    pub one_room : accepts test from ≡ true → written < length out
    one_room e = omega (arith, asks.room, ap length (fitting e))

    -- a row that fits
    pub one_yes : accepts test from ≡ true
        → Appended (rows_in (accepts test) from to) out written (written + 1) (set out written from)
    one_yes e = appended_as (sym (fitting e)) (appended_more from (appended_none out written) (one_room e))
