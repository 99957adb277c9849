-- The rows after the contexts of one role, tree by tree: a turn of the function that writes them, `after_start`,
-- `after_ends`, `after_asks`, `after_turn`, `after_done`. Assumes nothing.
use mathlib.Core.Path.{◌≡◌, ap, ◌∙◌}
use mathlib.Core.Logic.{⊎_elim}
use mathlib.Core.Bool.{Bool, true, false, ◌&&◌, and-false}
use mathlib.Core.List.{List}
use Prim.Native.Nat.{ℕ, ◌+◌, ◌-◌, ◌<◌, ◌≤◌}
use native.Mathlib.Nat.{le_refl}
use native.Mathlib.Omega.{arith}
use borrow.Author.Tests.{lt-ltb, le-ltb, le-leb, lt-leb}
use lib.Dec.{ltb, leb}
use lib.ListN.{length, take, drop, length-take, length-drop}
use lib.Seq.{get_or-take, get_or-drop}
use Rattle.tree.specs.Table.{at}
use Rattle.tree.specs.Axis.{on_axis}
use Rattle.tree.proofs.TreeLaws.{less?}
use Rattle.tree.proofs.SoundLaws.{both_of}
use Rattle.tree.proofs.RootLaws.{following_range}
use Rattle.scan.specs.declared.trees.Trees.{Trees}
use Rattle.scan.specs.declared.want.NodeTest.{NodeTest}
use Rattle.scan.specs.Want.{accepts}
use Rattle.scan.specs.OneRole.{any_on, one_role, RoleIn, Roots, Wrote}
use Rattle.scan.specs.Range.{rows_in, Appended, RangeIn, EndsIn, first_after, PastTree}
use Rattle.scan.proofs.RangeLaws.{contexts_rise, any_hit, any_miss, Covered, cover_start, cover_skip}
use Rattle.scan.proofs.RangeLaws.{cover_range, cover_asks, cover_done}
use Rattle.scan.proofs.TreeContextLaws.{root_of, low as tree-low, end_in as tree-in, same_root as tree-same}
use Rattle.scan.proofs.TreeContextLaws.{end_le, later_root}
use Rattle.scan.proofs.SideLaws.{after_least, after_met, after_le, nests}

-- the contexts of numbers i to j
abbrev pub some_of : ℕ → ℕ → List ℕ → List ℕ
some_of i j cs = take (j - i) (drop i cs)

-- the trees of the contexts before number i are done, those from i on lie ahead of row pos
pub record Turned (trees : Trees) (test : NodeTest) (cs d top out : List ℕ) (next i : ℕ) : Type 0 where
  pub few : i ≤ length cs
  pub pos : ℕ
  pub covered : Covered 8 trees.level.now trees.count (accepts test) cs d out next pos
  pub done : (k : ℕ) → k < i → at top (at cs k) + at trees.size.now (at top (at cs k)) < pos
  pub ahead : (k : ℕ) → i ≤ k → k < length cs → pos ≤ at top (at cs k)

module _ {trees : Trees} {test : NodeTest} {cs d top : List ℕ}
    (pre : RoleIn 8 trees test cs d) (roots : Roots trees.level.now trees.count top) where
  pub after_start : Turned trees test cs d top d 0 0
  after_start = record {
    few = omega arith;
    pos = 0;
    covered = cover_start pre;
    done = λ k l. absurd (omega arith);
    ahead = λ k l m. omega arith;
  }

  following : (k w : ℕ) → k < length cs → w < trees.count
      → on_axis 8 trees.level.now (at cs k) w
      ≡ (ltb (at cs k + at trees.size.now (at cs k)) w && leb w
      (at top (at cs k) + at trees.size.now (at top (at cs k))))
  unfolding on_axis
  following k w l m =
      let c = pre.contexts.inside k l in
      following_range trees.shape (at cs k) w (at top (at cs k)) c m (roots.roots (at cs k) c)

  -- not after it, or not in its tree
  not_after : (k w : ℕ) → k < length cs → w < trees.count → w ≤ at cs k + at trees.size.now (at cs k)
      → on_axis 8 trees.level.now (at cs k) w ≡ false
  not_after k w l m h =
      following k w l m
      ∙ ap (λ (b : Bool). b && leb w (at top (at cs k) + at trees.size.now (at top (at cs k)))) (le-ltb _ w h)

  not_in_tree : (k w : ℕ) → k < length cs → w < trees.count
      → at top (at cs k) + at trees.size.now (at top (at cs k)) < w
      → on_axis 8 trees.level.now (at cs k) w ≡ false
  not_in_tree k w l m h =
      following k w l m
      ∙ ap (λ (b : Bool). ltb (at cs k + at trees.size.now (at cs k)) w && b) (lt-leb w _ h)
      ∙ and-false (ltb (at cs k + at trees.size.now (at cs k)) w)

  -- once no context is left
  pub after_done : {out : List ℕ} {next i : ℕ}
      → Turned trees test cs d top out next i
      → length cs ≤ i
      → Wrote (one_role 8 trees.level.now trees.count (accepts test) cs) d next out
  after_done t e = cover_done t.covered
      (λ w a b. any_miss 8 trees.level.now cs w (λ k l. not_in_tree k w l b (omega (arith, t.done k (omega arith)))))

  module _ {out : List ℕ} {next i : ℕ}
      (t : Turned trees test cs d top out next i)
      (m : i < length cs) {j : ℕ}
      (q : PastTree cs i (at top (at cs i) + at trees.size.now (at top (at cs i)) + 1) j) where
    abbrev r : ℕ
    r = at top (at cs i)

    abbrev end : ℕ
    end = at top (at cs i) + at trees.size.now (at top (at cs i)) + 1

    low : at top (at cs i) < trees.count
    low = tree-low trees.shape pre.contexts roots m q

    end_in : at top (at cs i) + at trees.size.now (at top (at cs i)) < trees.count
    end_in = tree-in trees.shape pre.contexts roots m q

    same_root : (k : ℕ) → i ≤ k → k < j → at top (at cs k) ≡ at top (at cs i)
    same_root = tree-same trees.shape pre.contexts roots m q

    -- one of them, by its number among them
    part_at : (k : ℕ) → k < j - i → at (some_of i j cs) k ≡ at cs (i + k)
    part_at k h = rw (get_or-take, get_or-drop)

    part_length : length (some_of i j cs) ≡ j - i
    part_length = simp (length-take, length-drop) (omega (arith, q.to, q.from))

    ends_before : (k : ℕ) → i ≤ k → k < j → at cs k + at trees.size.now (at cs k) < end
    ends_before k a b =
        let l : k < length cs = omega (arith, q.to) in
        let c = pre.contexts.inside k l in
        let o = same_root k a b in
        let e = (root_of trees.shape pre.contexts roots k l).earlier in
        ⊎_elim
        (λ (x : at top (at cs i) < at cs k).
        omega (arith, (nests trees.shape).within r (at cs k) low x (omega (arith, q.before k a b))))
        (λ (x : at cs k ≤ at top (at cs i)).
        let y : at cs k ≡ at top (at cs i) = omega arith in
        let z = ap (at trees.size.now) y in
        omega arith)
        (less? (at top (at cs i)) (at cs k))

    pub after_ends : EndsIn trees.size.now (at top (at cs i) + at trees.size.now (at top (at cs i)) + 1)
        (some_of i j cs)
    after_ends =
        let g = end_in in
        record {
          few = omega (arith, trees.shape.few);
          in_size = omega (arith, trees.shape.in_size);
          inside = λ k l.
              let h : k < j - i = omega (arith, part_length) in
              let e = part_at k h in
              let z = ap (at trees.size.now) e in
              omega (arith, ends_before (i + k) (omega arith) (omega arith));
        }

    module _ {a : ℕ} (e : a
        ≡ first_after trees.size.now (at top (at cs i) + at trees.size.now (at top (at cs i)) + 1) (some_of i j cs)
        (length (some_of i j cs))) where
      -- row a lies in the tree, or is its end
      least_of : (k : ℕ) → i ≤ k → k < j → a ≤ at cs k + at trees.size.now (at cs k) + 1
      least_of k x y =
          let h : k - i < j - i = omega arith in
          let b : k - i < length (some_of i j cs) = omega (arith, part_length) in
          let u : i + (k - i) ≡ k = omega arith in
          let c : at (some_of i j cs) (k - i) ≡ at cs k = part_at (k - i) h ∙ ap (at cs) u in
          let z = ap (at trees.size.now) c in
          omega (arith, after_least trees.size.now end (some_of i j cs) (length (some_of i j cs)) (k - i) b)

      most : a ≤ end
      most = omega (arith, after_le trees.size.now end (some_of i j cs) (length (some_of i j cs)))

      from_root : t.pos ≤ a
      from_root = ⊎_elim
          (λ x. omega (arith, t.ahead i (le_refl i) m))
          (λ x.
          let h : x.0 < j - i = omega (arith, x.1, part_length) in
          let c = part_at x.0 h in
          let l : i + x.0 < length cs = omega (arith, q.to) in
          let o = same_root (i + x.0) (omega arith) (omega arith) in
          let u = (root_of trees.shape pre.contexts roots (i + x.0) l).earlier in
          omega (arith, x.2, t.ahead i (le_refl i) m))
          (after_met trees.size.now end (some_of i j cs) (length (some_of i j cs)))

      skipped : (w : ℕ) → t.pos ≤ w → w < a → any_on 8 trees.level.now cs w ≡ false
      skipped w x y =
          let g = end_in in
          let b = most in
          let l : w < trees.count = omega arith in
          any_miss 8 trees.level.now cs w (λ k h. ⊎_elim
          (λ (u : k < i). not_in_tree k w h l (omega (arith, t.done k u)))
          (λ (u : i ≤ k). ⊎_elim
          (λ (v : k < j). not_after k w h l (omega (arith, least_of k u v)))
          (λ (v : j ≤ k). not_after k w h l
          (omega (arith, q.after (omega arith), contexts_rise pre.contexts j k v h)))
          (less? k j))
          (less? k i))

      -- a row of the tree behind one of the contexts and its descendants
      hit : (w k : ℕ) → i ≤ k → k < j → at cs k + at trees.size.now (at cs k) < w → w < end
          → any_on 8 trees.level.now cs w ≡ true
      hit w k x y h u =
          let g = end_in in
          let l : w < trees.count = omega arith in
          let b : k < length cs = omega (arith, q.to) in
          let o = same_root k x y in
          let f = ap (at trees.size.now) o in
          any_hit 8 trees.level.now cs w k b (following k w b l
          ∙ both_of (lt-ltb (at cs k + at trees.size.now (at cs k)) w h)
          (le-leb w (at top (at cs k) + at trees.size.now (at top (at cs k))) (omega arith)))

      listed : (w : ℕ) → a ≤ w → w < end → any_on 8 trees.level.now cs w ≡ true
      listed w x y =
          ⊎_elim
          (λ z. absurd (omega (arith, z)))
          (λ z.
          let h : z.0 < j - i = omega (arith, z.1, part_length) in
          let c = part_at z.0 h in
          let v = ap (at trees.size.now) c in
          hit w (i + z.0) (omega arith) (omega arith) (omega (arith, z.2)) y)
          (after_met trees.size.now end (some_of i j cs) (length (some_of i j cs)))

      reached_from : Covered 8 trees.level.now trees.count (accepts test) cs d out next a
      reached_from = cover_skip t.covered a from_root (omega (arith, most, end_in)) skipped

      pub after_asks : RangeIn test a (at top (at cs i) + at trees.size.now (at top (at cs i)) + 1) out next
      after_asks = cover_asks pre reached_from end most (end_le trees.shape pre.contexts roots m q) listed

      pub after_turn : {s : ℕ} {new : List ℕ}
          → Appended (rows_in (accepts test) a (at top (at cs i) + at trees.size.now (at top (at cs i)) + 1))
          out next s new
          → Turned trees test cs d top new s j
      after_turn g = record {
        few = q.to;
        pos = end;
        covered = cover_range reached_from end most (end_le trees.shape pre.contexts roots m q) listed g;
        done = λ k l. ⊎_elim
            (λ (u : k < i). omega (arith, t.done k u, t.ahead i (le_refl i) m))
            (λ (u : i ≤ k). let o = same_root k u l in let f = ap (at trees.size.now) o in omega arith)
            (less? k i);
        ahead = later_root trees.shape pre.contexts roots m q;
      }
