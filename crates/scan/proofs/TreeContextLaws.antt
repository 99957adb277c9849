-- The contexts of one role, tree by tree: the root of each, `root_of`, `root_in`; those of one tree, `same_root`, and
-- those of later trees, `later_root`; a turn passes one at least, `turn_less`. Assumes nothing.
use mathlib.Core.Path.{◌≡◌, sym, ap, ◌∙◌}
use mathlib.Core.Logic.{⊎_elim}
use mathlib.Core.List.{List}
use Prim.Native.Nat.{ℕ, suc, ◌+◌, ◌<◌, ◌≤◌}
use native.Mathlib.Nat.{eq-or-lt_of_le}
use native.Mathlib.Omega.{arith}
use lib.ListN.{length}
use Rattle.tree.specs.Table.{at}
use Rattle.tree.specs.Rules.{Shape}
use Rattle.tree.proofs.TreeLaws.{less?}
use Rattle.tree.proofs.SoundLaws.{shape_fits}
use Rattle.tree.proofs.RootLaws.{Root, is_root, tree_range, tree_stops}
use Rattle.scan.specs.OneRole.{Contexts, Roots}
use Rattle.scan.specs.Range.{PastTree}
use Rattle.scan.proofs.RangeLaws.{contexts_rise}

module _ {size level : List ℕ} {n : ℕ} {cs top : List ℕ} (s : Shape size level n) (h : Contexts cs n)
    (roots : Roots level n top) where
  -- a context's root
  pub root_of : (k : ℕ) → k < length cs → Root level (at top (at cs k)) (at cs k)
  root_of k l = is_root level (at cs k) (at top (at cs k)) (roots.roots (at cs k) (h.inside k l))

  -- a context's root and its tree are rows in use
  pub root_in : (k : ℕ) → k < length cs → (at cs k < length top) × (at top (at cs k) < length size)
      × (at top (at cs k) + at size (at top (at cs k)) < n) × (n ≤ 4096)
  root_in k l =
      let c = h.inside k l in
      let e = (root_of k l).earlier in (
        omega (arith, roots.within),
        omega (arith, s.in_size),
        shape_fits s (at top (at cs k)) (omega arith),
        s.few,
      )

  module _ {i : ℕ} (m : i < length cs) {j : ℕ}
      (q : PastTree cs i (at top (at cs i) + at size (at top (at cs i)) + 1) j) where
    abbrev r : ℕ
    r = at top (at cs i)

    abbrev end : ℕ
    end = at top (at cs i) + at size (at top (at cs i)) + 1

    pub low : at top (at cs i) < n
    low = omega (arith, (root_of i m).earlier, h.inside i m)

    zero_level : at level (at top (at cs i)) ≡ 0
    zero_level = (root_of i m).top

    pub end_in : at top (at cs i) + at size (at top (at cs i)) < n
    end_in = shape_fits s r low

    pub end_le : at top (at cs i) + at size (at top (at cs i)) + 1 ≤ n
    end_le = omega (arith, end_in)

    -- the contexts of this tree
    pub same_root : (k : ℕ) → i ≤ k → k < j → at top (at cs k) ≡ at top (at cs i)
    same_root k a b =
        let l : k < length cs = omega (arith, q.to) in
        let c = h.inside k l in
        let u = contexts_rise (h) i k a l in
        let e = (root_of i m).earlier in
        let v = (tree_range s r (at cs k) low c zero_level).1
        (omega arith, omega (arith, q.before k a b)) in
        omega (arith, roots.roots (at cs k) c)

    -- the later ones
    pub later_root : (k : ℕ) → j ≤ k → k < length cs
        → at top (at cs i) + at size (at top (at cs i)) + 1 ≤ at top (at cs k)
    later_root k a l =
        let c = h.inside k l in
        let o = root_of k l in
        let z = o.top in
        let e = o.earlier in
        let u : at top (at cs i) + at size (at top (at cs i)) + 1 ≤ at cs k =
        omega (arith, q.after (omega arith), contexts_rise (h) j k a l) in
        ⊎_elim
        (λ (x : at top (at cs k) < at top (at cs i)). absurd (o.closest r x (omega arith) zero_level))
        (λ (x : at top (at cs i) ≤ at top (at cs k)). ⊎_elim
        (λ (y : at top (at cs i) ≡ at top (at cs k)).
        let w = (tree_range s r (at cs k) low c zero_level).0 (roots.roots (at cs k) c ∙ ap suc (sym y)) in
        absurd (omega (arith, w.1)))
        (λ (y : at top (at cs i) < at top (at cs k)).
        omega (arith, tree_stops s r (at top (at cs k)) low (omega arith) z y))
        (eq-or-lt_of_le x))
        (less? (at top (at cs k)) (at top (at cs i)))

    -- the number moves on
    pub turn_less : i < j
    turn_less = ⊎_elim (λ (x : i < j). x)
        (λ (x : j ≤ i).
        let b : j ≡ i = omega (arith, q.from) in
        let z = ap (at cs) b in
        let v = (tree_range s r (at cs i) low (h.inside i m) zero_level).0
        (roots.roots (at cs i) (h.inside i m)) in
        absurd (omega (arith, v.1, q.after (omega arith))))
        (less? i j)
