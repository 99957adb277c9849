-- One pass over the levels, with the rows that are still open remembered by level: `followed_start` at its start,
-- `followed_more` for a row more, `followed_all` at its end. A row is unfinished while every row after it is deeper.
-- Assumes nothing.
use mathlib.Core.Path.{◌≡◌, refl, ap, ◌∙◌}
use mathlib.Core.Logic.{◌⊎◌, inl, inr, ⊎_elim}
use mathlib.Core.Bool.{Bool, true, false, not, ◌&&◌}
use mathlib.Core.List.{List}
use Prim.Native.Nat.{ℕ, ◌+◌, ◌-◌, ◌<◌, ◌≤◌}
use native.Mathlib.Nat.{le_refl, le_of_suc-le-suc, eq-or-lt_of_le, not-suc-le-zero}
use native.Mathlib.Numerals.{add-one}
use native.Mathlib.Omega.{arith}
use native.Mathlib.Decide.{dec_lt}
use borrow.Author.Tests.{leb-true, ltb-true, eqb-true, eqb-false, eq-eqb, lt-leb, le-leb}
use lib.Dec.{eqb, leb, ltb, lit<}
use lib.ListN.{length, set, length-set, replicate, get_or-replicate}
use lib.Seq.{get_or-set_same, get_or-set_other}
use Rattle.tree.specs.Table.{Table, most_rows, at}
use Rattle.tree.specs.Sound.{size_of, size_ok, level_ok, kind_ok, name_ok, key_ok, beside_key_ok, row_ok, first_bad}
use Rattle.tree.specs.Rules.{InUse}
use Rattle.tree.proofs.SearchLaws.{least_none, least_at}
use Rattle.tree.proofs.TreeLaws.{rest, size_least, rest_at}
use Rattle.tree.proofs.SoundLaws.{both, both_of, level_back}
use Rattle.rows.specs.OnePass.{fits_in}

-- ── a row's size is known once a row after it is no deeper, or the rows end ──
module _ (level : List ℕ) (n j : ℕ) (l : n ≤ length level) (m : j < n) where
  deeper_at : (k : ℕ) → k < n - (j + 1) → at level j < at level (j + 1 + k)
      → leb (at (rest level n j) k) (at level j) ≡ false
  deeper_at k q d = rw (rest_at level n j l m k q) (lt-leb (at level (j + 1 + k)) (at level j) d)

  size_ends : (i : ℕ) → j < i → i < n → ((k : ℕ) → j < k → k < i → at level j < at level k) → at level i ≤ at level j
      → size_of level n j ≡ i - (j + 1)
  size_ends i a b deep low =
      size_least level n j l m
      ∙ least_at _ (n - (j + 1)) (i - (j + 1)) (omega arith)
      (λ k q. deeper_at k (omega arith) (deep (j + 1 + k) (omega arith) (omega arith)))
      (rw (rest_at level n j l m (i - (j + 1)) (omega arith), here) (le-leb (at level i) (at level j) low))
    where
      here : j + 1 + (i - (j + 1)) ≡ i
      here = omega arith

  size_last : ((k : ℕ) → j < k → k < n → at level j < at level k) → size_of level n j ≡ n - (j + 1)
  size_last deep =
      size_least level n j l m
      ∙ least_none _ (n - (j + 1)) (λ k q. deeper_at k q (deep (j + 1 + k) (omega arith) (omega arith)))

-- ── where a row may stand ──
record Standing (ends : List ℕ) (most i own held : ℕ) : Type 0 where
  near : own ≤ most
  high : own ≤ 63
  inside : held < at ends own - i
  after : at ends (own + 1) ≤ i

standing : (ends : List ℕ) (most i own held : ℕ) → fits_in ends most i own held ≡ true
    → Standing ends most i own held
unfolding fits_in
standing ends most i own held e =
    let a = both (leb own most && leb own 63) _ e in
    let b = both (leb own most) _ a.0 in
    let d = both (ltb held (at ends own - i)) _ a.1 in
    record {
      near = leb-true _ _ b.0;
      high = leb-true _ _ b.1;
      inside = ltb-true _ _ d.0;
      after = leb-true _ _ d.1;
    }

-- ── the rows below i: each has its size, or is unfinished and stands in ends ──
record Unfinished (size level ends : List ℕ) (i most j : ℕ) : Type 0 where
  deep : (k : ℕ) → j < k → k < i → at level j < at level k
  under : at level j < most
  stands : at ends (at level j + 1) ≡ j + 1 + at size j

-- row j keeps the rules of level, kind and name
record Kept (t : Table) (j : ℕ) : Type 0 where
  levels : level_ok t.level j ≡ true
  others : (kind_ok (at t.kind j) (at t.size j) (at t.level j)
      && name_ok (at t.kind j) (at t.name j)) ≡ true

-- no end is behind the table, none up to most is before i, and a deeper one is no later
pub record Followed (t : Table) (ends : List ℕ) (most i : ℕ) : Type 0 where
  pub low : most < 65
  pub places : length ends ≡ 65
  pub short : (l : ℕ) → l < 65 → at ends l ≤ most_rows
  pub ahead : (l : ℕ) → l ≤ most → i ≤ at ends l
  whole : at ends 0 ≡ t.count
  falls : (l m : ℕ) → l ≤ m → m ≤ most → at ends m ≤ at ends l
  first : i ≡ 0 → most ≡ 0
  last : 0 < i → at t.level (i - 1) + 1 ≡ most
  kept : (j : ℕ) → j < i → Kept t j
  sizes : (j : ℕ) → j < i
      → (at t.size j ≡ size_of t.level t.count j) ⊎ Unfinished t.size t.level ends i most j

-- another end that is not behind the table
ends_short : (ends : List ℕ) (k v : ℕ) → k < length ends → v ≤ most_rows → ((l : ℕ) → l < 65 → at ends l ≤ most_rows)
    → (l : ℕ) → l < 65 → at (set ends k v) l ≤ most_rows
ends_short ends k v p q h l m = go (eqb l k) refl
  where
    go : (b : Bool) → eqb l k ≡ b → at (set ends k v) l ≤ most_rows
    go true e = rw (eqb-true l k e, get_or-set_same ends k v 0 p) q
    go false e = rw (get_or-set_other ends k l v 0 (eqb-false l k e)) (h l m)

module _ (t : Table) (u : InUse t) where
  pub followed_start : Followed t (set (replicate 65 0) 0 t.count) 0 0
  followed_start = record {
    low = omega arith;
    places = refl;
    short = ends_short none 0 t.count (lit< tt) u.few
        (λ k q. rw (get_or-replicate {A = ℕ} 65 k 0 0 q) (omega arith));
    ahead = λ l _. omega arith;
    whole = get_or-set_same none 0 t.count 0 (lit< tt);
    falls = λ l m x y. let z : l ≡ m = omega arith in rw z (le_refl _);
    first = λ e. e;
    last = λ l. absurd (not-suc-le-zero l);
    kept = λ j l. absurd (not-suc-le-zero l);
    sizes = λ j l. absurd (not-suc-le-zero l);
  }
    where
      none : List ℕ
      none = replicate 65 0

  -- row i fits where it stands
  module _ (ends : List ℕ) (most i : ℕ) (l : i < t.count) (f : Followed t ends most i)
      (e : fits_in ends most i (at t.level i) (at t.size i) ≡ true) where
    abbrev own : ℕ
    own = at t.level i

    abbrev held : ℕ
    held = at t.size i

    w : Standing ends most i own held
    w = standing ends most i own held e

    -- it ends with the table at the latest, so no sum overflows
    pub row_ends : (own ≤ 63) × (i + held < t.count)
    row_ends = (
      w.high,
      omega (arith, w.inside, f.falls 0 own (omega arith) w.near, f.whole, f.ahead own w.near),
    )

    abbrev more : List ℕ
    more = set ends (own + 1) (i + 1 + held)

    own_end : (m : ℕ) → m ≡ own + 1 → at more m ≡ i + 1 + held
    own_end m r =
        ap (λ (k : ℕ). at more k) r ∙ get_or-set_same ends (own + 1) _ 0 (omega (arith, f.places, w.high))

    other_end : (m : ℕ) → m ≤ own → at more m ≡ at ends m
    other_end m x = get_or-set_other ends (own + 1) m _ 0 (λ r. absurd (omega arith))

    -- the ends above the row's own one are no earlier
    above : (m : ℕ) → m ≤ own → i + 1 + held ≤ at ends m
    above m x = omega (arith, w.inside, f.falls m own x w.near)

    -- row i ends an unfinished row that is no shallower, and leaves the others unfinished
    grown : (j : ℕ) → j < i → Unfinished t.size t.level ends i most j
        → (at t.size j ≡ size_of t.level t.count j)
        ⊎ Unfinished t.size t.level more (i + 1) (own + 1) j
    grown j z v = elim (dec_lt (at t.level j) own) [
      | yes p ↦ inr (record {
        deep = λ k x y. ⊎_elim (λ r. rw r p) (v.deep k x) (eq-or-lt_of_le (le_of_suc-le-suc (rw add-one at y)));
        under = omega arith;
        stands = other_end (at t.level j + 1) (omega arith) ∙ v.stands;
      })
      | no p ↦
          let near = f.ahead (at t.level j + 1) (omega (arith, v.under)) in
          let far = f.falls (own + 1) (at t.level j + 1) (omega arith) (omega (arith, v.under)) in
          let c = size_ends t.level t.count j u.in_level (omega arith) i z l v.deep (omega arith) in
          inl (omega (arith, v.stands, w.after))
    ]

    pub followed_more : (kind_ok (at t.kind i) held own && name_ok (at t.kind i) (at t.name i)) ≡ true
        → Followed t (set ends (at t.level i + 1) (i + 1 + at t.size i)) (at t.level i + 1) (i + 1)
    followed_more d = record {
      low = omega (arith, w.high);
      places = length-set ends (own + 1) _ ∙ f.places;
      short = ends_short ends (own + 1) _ (omega (arith, f.places, w.high))
          (omega (arith, row_ends.1, u.few)) f.short;
      ahead = λ m x. ⊎_elim (λ r. omega (arith, own_end m r))
          (λ r. omega (arith, other_end m (omega arith), above m (omega arith))) (eq-or-lt_of_le x);
      whole = other_end 0 (omega arith) ∙ f.whole;
      falls = λ k m x y. ⊎_elim (λ r. last_falls k m x r)
          (λ r. let e = f.falls k m x (omega (arith, w.near)) in
          omega (arith, other_end k (omega arith), other_end m (omega arith)))
          (eq-or-lt_of_le y);
      first = λ z. absurd (omega arith);
      last = λ _. let z : i + 1 - 1 ≡ i = omega arith in rw z;
      kept = λ j q. ⊎_elim
          (λ z. rw z (record {
            levels = level_back t.level i (record {
              root = λ z. omega (arith, w.near, f.first z);
              step = λ z. omega (arith, w.near, f.last z);
              low = w.high;
            });
            others = d;
          }))
          (f.kept j) (eq-or-lt_of_le (le_of_suc-le-suc (rw add-one at q)));
      sizes = λ j q. ⊎_elim
          (λ z. inr (rw z (record {
            deep = λ k x y. absurd (omega arith);
            under = omega arith;
            stands = own_end (own + 1) refl;
          })))
          (λ z. ⊎_elim inl (grown j z) (f.sizes j z)) (eq-or-lt_of_le (le_of_suc-le-suc (rw add-one at q)));
    }
      where
        last_falls : (k m : ℕ) → k ≤ m → m ≡ own + 1 → at more m ≤ at more k
        last_falls k m x r = ⊎_elim (λ z. rw z (le_refl _))
            (λ z. omega (arith, own_end m r, other_end k (omega arith), above k (omega arith))) (eq-or-lt_of_le x)

  -- behind the last row every unfinished row ends with the table
  pub followed_all : (ends : List ℕ) (most i : ℕ) → i ≡ t.count → Followed t ends most i
      → ((j : ℕ) → j < i → key_ok t.key j ≡ true) → first_bad t ≡ t.count
  unfolding first_bad row_ok beside_key_ok size_ok
  followed_all ends most i q f keys =
      least_none _ t.count (λ j l. ap not (both_of (keeps j (omega arith)) (keys j (omega arith))))
    where
      size_is : (j : ℕ) → j < i → at t.size j ≡ size_of t.level t.count j
      size_is j l = ⊎_elim (λ e. e) (λ v.
          let near = f.ahead (at t.level j + 1) (omega (arith, v.under)) in
          let far = f.falls 0 (at t.level j + 1) (omega arith) (omega (arith, v.under)) in
          let c = size_last t.level t.count j u.in_level (omega arith) (λ k x y. v.deep k x (omega arith)) in
          omega (arith, v.stands, f.whole)) (f.sizes j l)

      keeps : (j : ℕ) → j < i → beside_key_ok t j ≡ true
      keeps j l =
          let k = f.kept j l in
          let o = both (kind_ok (at t.kind j) (at t.size j) (at t.level j)) _ k.others in
          both_of (both_of (both_of k.levels (eq-eqb _ _ (size_is j l))) o.0) o.1
