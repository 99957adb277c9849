-- The rows after and before the contexts of one role: `after-..` of the least row after one of them, `before-..` of
-- the rows that end before the last; `nests`, that the sizes of a tree nest; `passed-..`, from subtree to subtree.
-- Assumes nothing.
use mathlib.Core.Path.{◌≡◌, refl, sym, ap, ◌∙◌}
use mathlib.Core.Logic.{◌⊎◌, inl, inr, ⊎_elim}
use mathlib.Core.List.{List}
use Prim.Native.Nat.{ℕ, zero, suc, ◌+◌, ◌<◌, ◌≤◌, min}
use native.Mathlib.Nat.{le_refl, le_of_suc-le-suc, not-suc-le-zero, eq-or-lt_of_le}
use native.Mathlib.Numerals.{add-one}
use native.Mathlib.Omega.{arith}
use Rattle.tree.specs.Table.{at}
use Rattle.tree.specs.Rules.{Shape}
use Rattle.tree.proofs.TreeLaws.{less?}
use Rattle.tree.proofs.SoundLaws.{shape_fits}
use Rattle.tree.proofs.SubtreeLaws.{nested}
use Rattle.scan.specs.Range.{first_after, Nests, Ended}

-- ── the least row after one of the contexts ──
module _ (size : List ℕ) (n : ℕ) (cs : List ℕ) where
  pub after_none : n ≡ first_after size n cs 0
  unfolding first_after
  after_none = refl

  pub after_more : (k : ℕ) {f r : ℕ} → f ≡ first_after size n cs k → r ≡ min f (at cs k + at size (at cs k) + 1)
      → r ≡ first_after size n cs (k + 1)
  unfolding first_after
  after_more k p q =
      q ∙ ap (λ (x : ℕ). min x (at cs k + at size (at cs k) + 1)) p ∙ sym (ap (first_after size n cs) (add-one k))

  pub after_least : (k i : ℕ) → i < k → first_after size n cs k ≤ at cs i + at size (at cs i) + 1
  unfolding first_after
  after_least zero i l = absurd (not-suc-le-zero l)
  after_least (suc k) i l = ⊎_elim
      (λ (e : i ≡ k). let q = ap (λ (j : ℕ). at cs j + at size (at cs j) + 1) e in omega arith)
      (λ (m : i < k). omega (arith, after_least k i m))
      (eq-or-lt_of_le (le_of_suc-le-suc l))

  -- it is n, or the row after one of them
  pub after_met : (k : ℕ) → (first_after size n cs k ≡ n)
      ⊎ ((i : ℕ) × (i < k) × (first_after size n cs k ≡ at cs i + at size (at cs i) + 1))
  unfolding first_after
  after_met zero = inl refl
  after_met (suc k) = ⊎_elim
      (λ (l : at cs k + at size (at cs k) + 1 < first_after size n cs k). inr (k, le_refl (suc k), omega arith))
      (λ (l : first_after size n cs k ≤ at cs k + at size (at cs k) + 1). ⊎_elim
      (λ e. inl (omega arith))
      (λ e. inr (e.0, omega (arith, e.1), omega (arith, e.2)))
      (after_met k))
      (less? (at cs k + at size (at cs k) + 1) (first_after size n cs k))

  pub after_le : (k : ℕ) → first_after size n cs k ≤ n
  unfolding first_after
  after_le zero = le_refl n
  after_le (suc k) = omega (arith, after_le k)

-- ── nesting ──
pub nests : {size level : List ℕ} {n : ℕ} → Shape size level n → Nests size n
nests s = record {
  few = s.few;
  in_size = s.in_size;
  inside = shape_fits s;
  within = nested s;
}

-- ── from subtree to subtree ──
-- the rows from w on, and before v, have ended before row c
pub record PassedOver (size : List ℕ) (c w v : ℕ) : Type 0 where
  pub from : w ≤ v
  pub to : v ≤ c
  pub ended : (u : ℕ) → w ≤ u → u < v → u + at size u < c

pub passed_start : {size : List ℕ} {c w : ℕ} → w ≤ c → PassedOver size c w w
passed_start {size} {c} {w} l = record { from = le_refl w; to = l; ended = λ u a b. absurd (omega arith) }

-- past a subtree that has ended
pub passed_next : {size : List ℕ} {n c w v : ℕ} → Nests size n → c < n → PassedOver size c w v → v + at size v < c
    → PassedOver size c w (v + at size v + 1)
passed_next {size} {n} {c} {w} {v} t m s l = record {
  from = omega (arith, s.from);
  to = omega arith;
  ended = λ u a b. ⊎_elim
      (λ (q : u < v). s.ended u a q)
      (λ (q : v ≤ u). ⊎_elim
      (λ (e : v ≡ u). let z = ap (at size) e in omega arith)
      (λ (k : v < u). omega (arith, t.within v u (omega arith) k (omega arith)))
      (eq-or-lt_of_le q))
      (less? u v);
}

-- at a subtree that has not
pub passed_stop : {size : List ℕ} {c w v : ℕ} → PassedOver size c w v → c ≤ v + at size v → Ended size c w v
passed_stop s l = record { from = s.from; to = s.to; ended = s.ended; holds = l }
