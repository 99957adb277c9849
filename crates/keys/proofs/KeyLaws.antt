-- The walk along a chain finds the row of a key: `walk_start`, `walk_step`, `walk_hit`, `walk_less`, and at its end
-- `walk_end`. Chains start empty and grow by a row: `zeros_empty`, `none_chained`, `chained_more`. These hold
-- however many buckets there are. A bucket is one of them: `bucket_lt`. The test of a key: `key_zero`, `key_new`.
-- Chains that keep their columns: `same_start`, `same_more`. Assumes nothing.
use mathlib.Core.Path.{◌≡◌, refl, sym, ap, subst, ◌∙◌}
use mathlib.Core.Logic.{◌⊎◌, inl, inr, ⊎_elim}
use mathlib.Core.Bool.{Bool, true, false}
use mathlib.Core.List.{List}
use Prim.Native.Nat.{ℕ, suc, ◌+◌, ◌-◌, ◌^◌, ◌<◌, ◌≤◌}
use native.Mathlib.Nat.{le_refl, le_of_suc-le-suc, eq-or-lt_of_le, not-suc-le-zero, lt_of_lt_of_le, mod-lt}
use native.Mathlib.Numerals.{add-one}
use native.Mathlib.Omega.{arith}
use borrow.Author.Tests.{eqb-true, eqb-false, eq-eqb, ne_eqb, le-leb, lt-leb, ltb-true, ltb-false}
use lib.Dec.{eqb, leb, ltb, lit<}
use lib.ListN.{length, get_or, set, replicate, get_or-replicate}
use lib.Pow.{shr_lt}
use lib.Seq.{get_or-set_same, get_or-set_other}
use Rattle.tree.specs.Search.{nearest}
use Rattle.tree.specs.Table.{at}
use Rattle.tree.specs.Sound.{row_of, key_ok}
use Rattle.tree.proofs.SearchLaws.{least_none, least_at, least_le, nearest_le, nearest_skip, nearest_in}
use Rattle.keys.specs.Chain.{spread_of, buckets_of, bucket_of, last_in, Empty, Chained}
use Rattle.keys.specs.SameChains.{Same}
use Rattle.keys.specs.declared.Chains.{Chains}

spread_lt : (x : ℕ) → spread_of x < 2 ^ 32
unfolding spread_of
spread_lt x = mod-lt _ (lit< tt)

-- zeros are empty buckets
pub zeros_empty : (shift n : ℕ) → buckets_of shift ≤ n → Empty shift (replicate n 0)
zeros_empty shift n l = record { none = λ b k. get_or-replicate n b 0 0 (lt_of_lt_of_le k l) }

module _ (shift : ℕ) where
  pub bucket_lt : (x : ℕ) → shift ≤ 32 → bucket_of shift x < buckets_of shift
  unfolding bucket_of
  bucket_lt x p =
      let whole : 32 ≡ 32 - shift + shift = omega arith in
      shr_lt (32 - shift) shift (subst (λ (k : ℕ). spread_of x < 2 ^ k) whole (spread_lt x))

  -- a walk along a chain stands at r: no row from r on, below i, has the key x, and the row before r is in x's bucket
  pub record Walk (key : List ℕ) (x i r : ℕ) : Type 0 where
    pub within : r ≤ i
    pub passed : (k : ℕ) → r ≤ k → k < i → at key k ≡ x → ⊥
    pub chained : (j : ℕ) → r ≡ suc j → bucket_of shift (at key j) ≡ bucket_of shift x

  last_le : (key : List ℕ) (b m : ℕ) → last_in shift key b m ≤ m
  unfolding last_in
  last_le key b m = nearest_le _ m

  -- rows between the last one in the bucket and m are in another bucket
  last_skip : (key : List ℕ) (b m k : ℕ) → last_in shift key b m ≤ k → k < m → bucket_of shift (at key k) ≡ b → ⊥
  unfolding last_in
  last_skip key b m k l h = eqb-false _ _ (nearest_skip (λ j. eqb (bucket_of shift (at key j)) b) m k l h)

  -- the last row in the bucket is in the bucket
  last_in_lem : (key : List ℕ) (b m j : ℕ) → last_in shift key b m ≡ suc j → bucket_of shift (at key j) ≡ b
  unfolding last_in
  last_in_lem key b m j e = eqb-true _ _ (nearest_in (λ j. eqb (bucket_of shift (at key j)) b) m j e)

  -- from rows m on, below i, none has x: so the walk may stand at the last row below m in x's bucket
  walk : (key : List ℕ) (x i m : ℕ) → m ≤ i → ((k : ℕ) → m ≤ k → k < i → at key k ≡ x → ⊥)
      → Walk key x i (last_in shift key (bucket_of shift x) m)
  walk key x i m l h = record {
    within = omega (arith, last_le key (bucket_of shift x) m);
    passed = λ k u v e. go k u v e (ltb k m) refl;
    chained = λ j e. last_in_lem key (bucket_of shift x) m j e;
  }
    where
      go : (k : ℕ) → last_in shift key (bucket_of shift x) m ≤ k → k < i → at key k ≡ x → (t : Bool) → ltb k m ≡ t
          → ⊥
      go k u v e true w = last_skip key (bucket_of shift x) m k u (ltb-true _ _ w) (ap (bucket_of shift) e)
      go k u v e false w = h k (ltb-false _ _ w) v e

  -- one more row, its bucket's last row chained behind it
  pub chained_more : (key heads next : List ℕ) (i : ℕ) → shift ≤ 32 → buckets_of shift ≤ length heads
      → i < length next → Chained shift key heads next i
      → Chained shift key (set heads (bucket_of shift (at key i)) (i + 1))
      (set next i (get_or heads (bucket_of shift (at key i)) 0)) (i + 1)
  unfolding last_in nearest
  chained_more key heads next i p l m h = record {
    heads_at = λ b k. rw add-one (head b k (eqb (bucket_of shift (at key i)) b) refl);
    next_at = λ j k. old j (eq-or-lt_of_le (le_of_suc-le-suc (rw add-one at k)));
  }
    where
      head : (b : ℕ) → b < buckets_of shift → (t : Bool) → eqb (bucket_of shift (at key i)) b ≡ t
          → get_or (set heads (bucket_of shift (at key i)) (suc i)) b 0 ≡ last_in shift key b (suc i)
      head b k true q =
          let e : bucket_of shift (at key i) ≡ b = eqb-true _ _ q in
          rw (q, e) (get_or-set_same heads b (suc i) 0 (omega arith))
      head b k false q =
          rw q (get_or-set_other heads (bucket_of shift (at key i)) b (suc i) 0 (λ e. eqb-false _ _ q (sym e))
          ∙ h.heads_at b k)

      old : (j : ℕ) → (j ≡ i) ⊎ (j < i)
          → get_or (set next i (get_or heads (bucket_of shift (at key i)) 0)) j 0
          ≡ last_in shift key (bucket_of shift (at key j)) j
      old j (inl e) = rw e (get_or-set_same next i _ 0 m ∙ h.heads_at _ (bucket_lt (at key i) p))
      old j (inr k) = get_or-set_other next i j _ 0 (λ e. absurd (omega arith)) ∙ h.next_at j k

  -- no row is chained where all buckets are empty
  pub none_chained : (key heads next : List ℕ) → Empty shift heads → Chained shift key heads next 0
  unfolding last_in nearest
  none_chained key heads next h = record {
    heads_at = h.none;
    next_at = λ j k. absurd (not-suc-le-zero k);
  }

  -- the walk has come to its end: the row kept is the least that has the key
  pub walk_end : (key : List ℕ) (x n row r : ℕ) → r ≤ 0 → row ≤ n → (row < n → at key row ≡ x) → Walk key x row r
      → row ≡ row_of key n x
  unfolding row_of
  walk_end key x n row r z l hit w = ⊎_elim
      (λ e. e ∙ sym (least_none _ n (λ k m. ne_eqb _ _ (w.passed k (omega arith) (omega arith)))))
      (λ m. sym (least_at _ n row m (λ k q. ne_eqb _ _ (w.passed k (omega arith) q)) (eq-eqb _ _ (hit m))))
      (eq-or-lt_of_le l)

  pub walk_start : (key heads next : List ℕ) (i x b : ℕ) → shift ≤ 32 → Chained shift key heads next i
      → b ≡ bucket_of shift x → Walk key x i (at heads b)
  walk_start key heads next i x b p h e =
      rw (e, h.heads_at (bucket_of shift x) (bucket_lt x p))
      (walk key x i i (le_refl i) (λ k l m q. absurd (omega arith)))

  -- on along the chain: with the row kept, where the row before r has another key, or with that row
  module _ (key heads next : List ℕ) (n x row r : ℕ) (h : Chained shift key heads next n) (l : row ≤ n)
      (w : Walk key x row r) (p : 0 < r) where
    next_is : at next (r - 1) ≡ last_in shift key (bucket_of shift x) (r - 1)
    next_is =
        h.next_at (r - 1) (omega (arith, w.within))
        ∙ ap (λ (b : ℕ). last_in shift key b (r - 1)) (w.chained (r - 1) (omega arith))

    pub walk_less : at next (r - 1) < r
    walk_less = rw next_is (omega (arith, last_le key (bucket_of shift x) (r - 1)))

    pub walk_step : (at key (r - 1) ≡ x → ⊥) → Walk key x row (at next (r - 1))
    walk_step ne =
        rw next_is (walk key x row (r - 1) (omega (arith, w.within)) (λ k u v e. on k u v e (eq-or-lt_of_le u)))
      where
        on : (k : ℕ) → r - 1 ≤ k → k < row → at key k ≡ x → (r - 1 ≡ k) ⊎ (r - 1 < k) → ⊥
        on k u v e (inl q) = ne (ap (λ (m : ℕ). at key m) q ∙ e)
        on k u v e (inr q) = w.passed k (omega arith) v e

    pub walk_hit : Walk key x (r - 1) (at next (r - 1))
    walk_hit = rw next_is (walk key x (r - 1) (r - 1) (le_refl _) (λ k u v e. absurd (omega arith)))

-- the two ends of the test of a key
pub key_zero : (key : List ℕ) (i : ℕ) → at key i ≡ 0 → key_ok key i ≡ false
unfolding key_ok
key_zero key i e = rw e

at_most_is : (i r : ℕ) → r ≤ i → leb i r ≡ eqb r i
at_most_is i r l = ⊎_elim
    (λ e. rw e (le-leb i i (le_refl i) ∙ sym (eq-eqb i i refl)))
    (λ m. lt-leb i r m ∙ sym (ne_eqb r i (λ e. absurd (omega arith))))
    (eq-or-lt_of_le l)

pub key_new : (key : List ℕ) (i : ℕ) → (at key i ≡ 0 → ⊥) → leb i (row_of key i (at key i)) ≡ key_ok key i
unfolding key_ok row_of
key_new key i n = simp (ne_eqb _ _ n) (at_most_is i _ (least_le _ i))

-- ── chains that kept their columns ──
pub same_start : (c : Chains) → Same c c
same_start c = record { shift = refl; heads = refl; next = refl; heads_room = refl; next_room = refl }

pub same_more : {a b c : Chains} → Same a b → Same b c → Same a c
same_more h k = record {
  shift = k.shift ∙ h.shift;
  heads = k.heads ∙ h.heads;
  next = k.next ∙ h.next;
  heads_room = k.heads_room ∙ h.heads_room;
  next_room = k.next_room ∙ h.next_room;
}
