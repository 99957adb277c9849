-- How many rows lie on the axis of one context, at most: `count_one`, `count_below`, `count_above`, `count_beside`.
-- Then the same of many contexts, a bound for each group of axes: `one_most` on self and parent; `below_most` on
-- child, descendant and descendant-or-self; `above_most` on ancestor and ancestor-or-self; `beside_most` on the
-- siblings. Assumes nothing.
use mathlib.Core.Path.{◌≡◌, refl, ◌∙◌}
use mathlib.Core.Logic.{◌⊎◌, inl, inr, ⊎_elim}
use mathlib.Core.Bool.{Bool, true}
use mathlib.Core.List.{List}
use Prim.Native.Nat.{ℕ, zero, suc, ◌+◌, ◌-◌, ◌*◌, ◌<◌, ◌≤◌}
use native.Mathlib.Nat.{le_trans}
use native.Mathlib.Omega.{arith}
use borrow.Author.Tests.{eqb-true}
use lib.Dec.{eqb}
use lib.ListN.{length}
use Rattle.tree.specs.Search.{gather}
use Rattle.std.specs.List.{sum_by}
use Rattle.tree.specs.Table.{at}
use Rattle.tree.specs.Tree.{parent, ancestor}
use Rattle.tree.specs.Axis.{on_axis}
use Rattle.tree.specs.Rules.{Shape}
use Rattle.tree.proofs.TreeLaws.{less?, parent_below}
use Rattle.tree.proofs.SoundLaws.{either, shape_descendants}
use Rattle.tree.proofs.LevelLaws.{ancestors_count}
use Rattle.scan.specs.OneRole.{Parents}
use Rattle.scan.specs.declared.trees.Trees.{Trees}
use Rattle.bounds.specs.Bounds.{on_count, span_of, link_span, parent_span, FewRows}
use Rattle.tree.proofs.SubtreeLaws.{child_within}
use Rattle.marks.proofs.SiblingLaws.{later_on, earlier_on}
use Rattle.bounds.proofs.GatherLaws.{gather_within, gather_either}
use Rattle.bounds.proofs.SumLaws.{sum_less, sum_same}

-- ── self and parent ──
module _ (level : List ℕ) (n c : ℕ) where
  count_self : on_count 1 level n c ≤ 1
  unfolding on_count on_axis
  count_self =
      le_trans (gather_within _ c (c + 1) n (λ w l e.
      let z : w ≡ c = eqb-true w c e in (omega arith, omega arith)))
      (omega arith)

  count_parent : on_count 5 level n c ≤ 1
  unfolding on_count on_axis
  count_parent =
      le_trans (gather_within _ (parent level c - 1) (parent level c) n (λ w l e.
      let z : parent level c ≡ suc w = eqb-true _ _ e in (omega arith, omega arith)))
      (omega arith)

  pub count_one : (axis : ℕ) → (axis ≡ 1) ⊎ (axis ≡ 5) → on_count axis level n c ≤ 1
  count_one axis (inl e) = rw e count_self
  count_one axis (inr e) = rw e count_parent

module _ {size level : List ℕ} {n : ℕ} (s : Shape size level n) (c : ℕ) (m : c < n) where
  -- ── child, descendant, descendant-or-self ──
  count_children : on_count 2 level n c ≤ span_of size c
  unfolding on_count on_axis
  count_children =
      le_trans (gather_within _ c (c + at size c + 1) n (λ w l e.
      let z : parent level w ≡ suc c = eqb-true _ _ e in
      (omega (arith, parent_below level w c z), omega (arith, child_within s c w l z))))
      (omega arith)

  count_descendants : on_count 3 level n c ≤ span_of size c
  unfolding on_count on_axis
  count_descendants =
      le_trans (gather_within _ c (c + at size c + 1) n (λ w l e.
      let z = (shape_descendants s c w m l).0 e in (omega (arith, z.0), omega (arith, z.1))))
      (omega arith)

  count_subtree : on_count 4 level n c ≤ span_of size c
  unfolding on_count on_axis
  count_subtree =
      le_trans (gather_within _ c (c + at size c + 1) n (λ w l e. ⊎_elim
      (λ z. let y : w ≡ c = eqb-true w c z in (omega arith, omega arith))
      (λ y. let z = (shape_descendants s c w m l).0 y in (omega (arith, z.0), omega (arith, z.1)))
      (either (eqb w c) (ancestor level c w) e)))
      (omega arith)

  pub count_below : (axis : ℕ) → 2 ≤ axis → axis < 5 → on_count axis level n c ≤ span_of size c
  count_below axis a b = ⊎_elim
      (λ (h : axis < 3). let e : axis ≡ 2 = omega arith in rw e count_children)
      (λ (h : 3 ≤ axis). ⊎_elim
      (λ (k : axis < 4). let e : axis ≡ 3 = omega arith in rw e count_descendants)
      (λ (k : 4 ≤ axis). let e : axis ≡ 4 = omega arith in rw e count_subtree)
      (less? axis 4))
      (less? axis 3)

  -- ── ancestor, ancestor-or-self ──
  count_ancestors : on_count 6 level n c ≤ 63
  unfolding on_count on_axis
  count_ancestors = omega (arith, ancestors_count s c m, (s.levels c m).low)

  count_path : on_count 7 level n c ≤ 64
  unfolding on_count on_axis
  count_path =
      omega (
        arith,
        gather_either (λ w. eqb w c) (λ w. ancestor level w c) n,
        count_self level n c,
        ancestors_count s c m,
        (s.levels c m).low,
      )

  pub count_above : (axis : ℕ) → 6 ≤ axis → axis < 8 → on_count axis level n c ≤ 64
  count_above axis a b = ⊎_elim
      (λ (h : axis < 7). let e : axis ≡ 6 = omega arith in rw e (omega (arith, count_ancestors)))
      (λ (h : 7 ≤ axis). let e : axis ≡ 7 = omega arith in rw e count_path)
      (less? axis 7)

  -- ── the siblings ──
  module _ {up : List ℕ} (p : Parents level n up) where
    -- rows with the parent of c lie below it
    beside : (f : ℕ → Bool) → ((w : ℕ) → f w ≡ true → (0 < parent level c) × (parent level w ≡ parent level c))
        → length (gather f n) ≤ parent_span size up c
    unfolding link_span
    beside f h = rw (p.parents c m) (go (parent level c) refl)
      where
        go : (q : ℕ) → parent level c ≡ q → length (gather f n) ≤ link_span size q
        go zero e = le_trans (gather_within f 0 0 n (λ w l t. absurd (omega (arith, (h w t).0)))) (omega arith)
        go (suc q) e =
            le_trans (gather_within f q (q + at size q + 1) n (λ w l t.
            let z : parent level w ≡ suc q = (h w t).1 ∙ e in
            (omega (arith, parent_below level w q z), omega (arith, child_within s q w l z))))
            (omega arith)

    pub count_beside : (axis : ℕ) → 10 ≤ axis → axis < 12 → on_count axis level n c ≤ parent_span size up c
    unfolding on_count
    count_beside axis a b = ⊎_elim
        (λ (h : axis < 11). let e : axis ≡ 10 = omega arith in rw e (beside (λ w. on_axis 10 level c w) (λ w t.
        let z = (later_on level c w t).0 in (z.some, z.same))))
        (λ (h : 11 ≤ axis). let e : axis ≡ 11 = omega arith in rw e (beside (λ w. on_axis 11 level c w) (λ w t.
        let z = (earlier_on level c w t).0 in (z.some, z.same))))
        (less? axis 11)

-- ── many contexts ──
module _ {trees : Trees} {cs : List ℕ} (f : FewRows trees cs) (axis : ℕ) where
  pub one_most : (axis ≡ 1) ⊎ (axis ≡ 5) → sum_by (on_count axis trees.level.now trees.count) cs ≤ length cs
  one_most e =
      le_trans (sum_less _ (λ c. 1) cs (λ i l. count_one trees.level.now trees.count (at cs i) axis e))
      (omega (arith, sum_same 1 cs))

  pub below_most : 2 ≤ axis → axis < 5
      → sum_by (on_count axis trees.level.now trees.count) cs ≤ sum_by (span_of trees.size.now) cs
  below_most a b = sum_less _ _ cs (λ i l. count_below trees.shape (at cs i) (f.inside i l) axis a b)

  pub above_most : 6 ≤ axis → axis < 8 → sum_by (on_count axis trees.level.now trees.count) cs ≤ 64 * length cs
  above_most a b =
      le_trans (sum_less _ (λ c. 64) cs (λ i l. count_above trees.shape (at cs i) (f.inside i l) axis a b))
      (omega (arith, sum_same 64 cs))

  pub beside_most : {up : List ℕ} → Parents trees.level.now trees.count up → 10 ≤ axis → axis < 12
      → sum_by (on_count axis trees.level.now trees.count) cs ≤ sum_by (parent_span trees.size.now up) cs
  beside_most p a b = sum_less _ _ cs (λ i l. count_beside trees.shape (at cs i) (f.inside i l) p axis a b)
