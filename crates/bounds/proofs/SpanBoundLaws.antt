-- A row and its descendants, as a number: where a link names the row, `link_none`, `link_some`, `link_inside`;
-- that the number is small, `span_small`, `parent_span_small`; and so are the sums, `spans_small`,
-- `parent_spans_small`. Assumes nothing.
use mathlib.Core.Path.{◌≡◌, refl, ap}
use mathlib.Core.List.{List}
use Prim.Native.Nat.{ℕ, zero, suc, ◌+◌, ◌-◌, ◌*◌, ◌<◌, ◌≤◌}
use native.Mathlib.Omega.{arith}
use lib.ListN.{length}
use Rattle.std.specs.List.{sum_by}
use Rattle.tree.specs.Table.{at}
use Rattle.tree.specs.Tree.{parent}
use Rattle.tree.specs.Rules.{Shape}
use Rattle.tree.proofs.TreeLaws.{parent_below}
use Rattle.tree.proofs.SoundLaws.{shape_fits}
use Rattle.scan.specs.OneRole.{Parents}
use Rattle.scan.specs.declared.trees.Trees.{Trees}
use Rattle.bounds.specs.Bounds.{span_of, link_span, parent_span, FewRows}
use Rattle.ways.proofs.ClimbLaws.{parent_low}
use Rattle.bounds.proofs.SumLaws.{sum_less, sum_same}

-- ── the row that a link names ──
module _ (size : List ℕ) where
  pub link_none : {link : ℕ} → link ≡ 0 → 1 ≡ link_span size link
  unfolding link_span
  link_none e = rw e

  pub link_some : (link : ℕ) → (link ≡ 0 → ⊥) → at size (link - 1) + 1 ≡ link_span size link
  unfolding link_span
  link_some zero h = absurd (h refl)
  link_some (suc p) h = ap (λ (k : ℕ). at size k + 1) (let e : suc p - 1 ≡ p = omega arith in e)

module _ {size level : List ℕ} {n : ℕ} (s : Shape size level n) (c : ℕ) (m : c < n) where
  pub span_small : span_of size c ≤ 4096
  span_small = omega (arith, shape_fits s c m, s.few)

  module _ {up : List ℕ} (p : Parents level n up) where
    -- the parent is a row in use
    pub link_inside : at up c ≤ length size
    link_inside = omega (arith, p.parents c m, parent_low level c, s.in_size)

    pub parent_span_small : parent_span size up c ≤ 4096
    unfolding link_span
    parent_span_small = rw (p.parents c m) (go (parent level c) refl)
      where
        go : (q : ℕ) → parent level c ≡ q → link_span size q ≤ 4096
        go zero e = omega arith
        go (suc q) e = omega (arith, shape_fits s q (omega (arith, parent_below level c q e)), s.few)

-- ── the sums ──
module _ {trees : Trees} {cs : List ℕ} (f : FewRows trees cs) where
  small : (g : ℕ → ℕ) → ((i : ℕ) → i < length cs → g (at cs i) ≤ 4096) → sum_by g cs ≤ 4096 * 4096
  small g h = omega (arith, sum_less g (λ c. 4096) cs h, sum_same 4096 cs, f.few)

  pub spans_small : sum_by (span_of trees.size.now) cs ≤ 4096 * 4096
  spans_small = small _ (λ i l. span_small trees.shape (at cs i) (f.inside i l))

  pub parent_spans_small : {up : List ℕ} → Parents trees.level.now trees.count up
      → sum_by (parent_span trees.size.now up) cs ≤ 4096 * 4096
  parent_spans_small p = small _ (λ i l. parent_span_small trees.shape (at cs i) (f.inside i l) p)
