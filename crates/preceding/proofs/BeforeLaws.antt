-- The rows before the contexts of one role, tree by tree: the rows from a tree's root on that end before its last
-- context. A turn of the function that writes them: `before_start`, `before_tree`, `before_asks`, `before_next`,
-- `before_turn`, `before_done`. Assumes nothing.
use mathlib.Core.Path.{◌≡◌, ap, ◌∙◌}
use mathlib.Core.Logic.{⊎_elim}
use mathlib.Core.Bool.{Bool, true, false, ◌&&◌, and-false}
use mathlib.Core.List.{List}
use Prim.Native.Nat.{ℕ, ◌+◌, ◌-◌, ◌<◌, ◌≤◌}
use native.Mathlib.Nat.{le_refl}
use native.Mathlib.Omega.{arith}
use borrow.Author.Tests.{lt-ltb, le-ltb, le-leb, lt-leb}
use lib.Dec.{ltb, leb}
use lib.ListN.{length}
use Rattle.tree.specs.Table.{at}
use Rattle.tree.specs.Axis.{on_axis}
use Rattle.tree.proofs.TreeLaws.{less?}
use Rattle.tree.proofs.SoundLaws.{both_of}
use Rattle.tree.proofs.RootLaws.{preceding_range}
use Rattle.scan.specs.declared.trees.Trees.{Trees}
use Rattle.scan.specs.declared.want.NodeTest.{NodeTest}
use Rattle.scan.specs.Want.{accepts}
use Rattle.scan.specs.OneRole.{any_on, one_role, RoleIn, Roots, Wrote}
use Rattle.scan.specs.Range.{rows_in, Appended, RangeIn, PastTree, Ended}
use Rattle.scan.proofs.RangeLaws.{contexts_rise, any_hit, any_miss, Covered, cover_start, cover_skip}
use Rattle.scan.proofs.RangeLaws.{cover_range, cover_asks, cover_done}
use Rattle.scan.proofs.TreeContextLaws.{root_of, same_root, later_root, turn_less}

-- the contexts before number i are not after row pos, and the trees of those from i on lie ahead of it
pub record Behind (trees : Trees) (test : NodeTest) (cs d top out : List ℕ) (next i : ℕ) : Type 0 where
  pub few : i ≤ length cs
  pub pos : ℕ
  pub covered : Covered 9 trees.level.now trees.count (accepts test) cs d out next pos
  pub done : (k : ℕ) → k < i → at cs k ≤ pos
  pub ahead : (k : ℕ) → i ≤ k → k < length cs → pos ≤ at top (at cs k)

-- in the tree from row r on, whose last context is c, the rows below w are written, where those below r were
pub record Within (trees : Trees) (test : NodeTest) (cs out₀ : List ℕ) (next₀ r c : ℕ) (out : List ℕ) (next w : ℕ)
    : Type 0 where
  pub from : r ≤ w
  pub to : w ≤ c + 1
  pub carries : (d : List ℕ) → Covered 9 trees.level.now trees.count (accepts test) cs d out₀ next₀ r
      → Covered 9 trees.level.now trees.count (accepts test) cs d out next w

module _ {trees : Trees} {test : NodeTest} {cs d top : List ℕ} (pre : RoleIn 9 trees test cs d)
    (roots : Roots trees.level.now trees.count top) where
  pub before_start : Behind trees test cs d top d 0 0
  before_start = record {
    few = omega arith;
    pos = 0;
    covered = cover_start pre;
    done = λ k l. absurd (omega arith);
    ahead = λ k l m. omega arith;
  }

  preceding : (k w : ℕ) → k < length cs → w < trees.count
      → on_axis 9 trees.level.now (at cs k) w ≡ (leb (at top (at cs k)) w && ltb (w + at trees.size.now w) (at cs k))
  unfolding on_axis
  preceding k w l m =
      let c = pre.contexts.inside k l in
      preceding_range trees.shape (at cs k) w (at top (at cs k)) c m (roots.roots (at cs k) c)

  -- it has not ended before the context, or is not in its tree
  not_ended : (k w : ℕ) → k < length cs → w < trees.count → at cs k ≤ w + at trees.size.now w
      → on_axis 9 trees.level.now (at cs k) w ≡ false
  not_ended k w l m h =
      preceding k w l m ∙ ap (λ (b : Bool). leb (at top (at cs k)) w && b) (le-ltb (w + at trees.size.now w) _ h)
      ∙ and-false (leb (at top (at cs k)) w)

  not_in_tree : (k w : ℕ) → k < length cs → w < trees.count → w < at top (at cs k)
      → on_axis 9 trees.level.now (at cs k) w ≡ false
  not_in_tree k w l m h =
      preceding k w l m ∙ ap (λ (b : Bool). b && ltb (w + at trees.size.now w) (at cs k)) (lt-leb _ w h)

  -- once no context is left
  pub before_done : {out : List ℕ} {next i : ℕ} → Behind trees test cs d top out next i
      → length cs ≤ i → Wrote (one_role 9 trees.level.now trees.count (accepts test) cs) d next out
  before_done t e = cover_done t.covered
      (λ w a b. any_miss 9 trees.level.now cs w (λ k l. not_ended k w l b (omega (arith, t.done k (omega arith)))))

  module _ {i : ℕ} (m : i < length cs) {j : ℕ}
      (q : PastTree cs i (at top (at cs i) + at trees.size.now (at top (at cs i)) + 1) j) where
    less : i < j
    less = turn_less trees.shape pre.contexts roots m q

    -- the last context of the tree
    pub last_in_lem : (j - 1 < length cs) × (at cs (j - 1) < trees.count)
    last_in_lem =
        let a = less in
        let b : j - 1 < length cs = omega (arith, q.to) in
        (b, pre.contexts.inside (j - 1) b)

    last_root : at top (at cs (j - 1)) ≡ at top (at cs i)
    last_root = let a = less in same_root trees.shape pre.contexts roots m q (j - 1) (omega arith) (omega arith)

    root_before : at top (at cs i) ≤ at cs (j - 1)
    root_before = omega (arith, last_root, (root_of trees.shape pre.contexts roots (j - 1) last_in_lem.0).earlier)

    -- a row not before the tree that has not ended before the last context
    skipped : (w : ℕ) → w < trees.count → at cs (j - 1) ≤ w + at trees.size.now w
        → w < at top (at cs i) + at trees.size.now (at top (at cs i)) + 1
        → any_on 9 trees.level.now cs w ≡ false
    skipped w l a b = any_miss 9 trees.level.now cs w (λ k h. ⊎_elim
        (λ (u : k < j). not_ended k w h l
        (omega (arith, contexts_rise pre.contexts k (j - 1) (omega arith) last_in_lem.0)))
        (λ (u : j ≤ k). not_in_tree k w h l (omega (arith, later_root trees.shape pre.contexts roots m q k u h)))
        (less? k j))

    -- from the last turn to this tree's root
    at_root : {out : List ℕ} {next : ℕ} → Behind trees test cs d top out next i
        → Covered 9 trees.level.now trees.count (accepts test) cs d out next (at top (at cs i))
    at_root t = cover_skip t.covered (at top (at cs i)) (t.ahead i (le_refl i) m)
        (omega (arith, root_before, last_in_lem.1))
        (λ w a b. any_miss 9 trees.level.now cs w (λ k g. ⊎_elim
        (λ (u : k < i). not_ended k w g (omega (arith, root_before, last_in_lem.1)) (omega (arith, t.done k u)))
        (λ (u : i ≤ k). not_in_tree k w g (omega (arith, root_before, last_in_lem.1)) (ahead_of k u g w b))
        (less? k i)))
      where
        ahead_of : (k : ℕ) → i ≤ k → k < length cs → (w : ℕ) → w < at top (at cs i) → w < at top (at cs k)
        ahead_of k u g w b = ⊎_elim
            (λ (x : k < j). omega (arith, same_root trees.shape pre.contexts roots m q k u x))
            (λ (x : j ≤ k). omega (arith, later_root trees.shape pre.contexts roots m q k x g))
            (less? k j)

    pub before_tree : {out : List ℕ} {next : ℕ}
        → Within trees test cs out next (at top (at cs i)) (at cs (j - 1)) out next (at top (at cs i))
    before_tree = record { from = le_refl _; to = omega (arith, root_before); carries = λ d x. x }

    module _ {out₀ out : List ℕ} {next₀ next w : ℕ}
        (t : Within trees test cs out₀ next₀ (at top (at cs i)) (at cs (j - 1)) out next w)
        (l : w < at cs (j - 1)) {o : ℕ} (e : Ended trees.size.now (at cs (j - 1)) w o) where
      inside : o < trees.count
      inside = omega (arith, last_in_lem.1, e.to)

      ended : (v : ℕ) → w ≤ v → v < o → any_on 9 trees.level.now cs v ≡ true
      ended v a b =
          any_hit 9 trees.level.now cs v (j - 1) last_in_lem.0
          (preceding (j - 1) v last_in_lem.0 (omega (arith, inside))
          ∙ both_of (le-leb _ v (omega (arith, last_root, t.from))) (lt-ltb _ _ (e.ended v a b)))

      open_row : (v : ℕ) → o ≤ v → v < o + 1 → any_on 9 trees.level.now cs v ≡ false
      open_row v a b =
          let z : o ≡ v = omega arith in
          let y = ap (at trees.size.now) z in
          skipped v (omega (arith, inside)) (omega (arith, e.holds))
          (let k = less in omega (arith, e.to, q.before (j - 1) (omega arith) (omega arith)))

      -- what the scan of the range asks for
      pub before_asks : Behind trees test cs d top out₀ next₀ i → RangeIn test w o out next
      before_asks b = cover_asks pre (t.carries d (at_root b)) o e.from (omega (arith, inside)) ended

      pub before_next : {s : ℕ} {new : List ℕ} → Appended (rows_in (accepts test) w o) out next s new
          → Within trees test cs out₀ next₀ (at top (at cs i)) (at cs (j - 1)) new s (o + 1)
      before_next g = record {
        from = omega (arith, t.from, e.from);
        to = omega (arith, e.to);
        carries = λ d x. cover_skip (cover_range (t.carries d x) o e.from (omega (arith, inside)) ended g) (o + 1)
            (omega arith) (omega (arith, inside)) open_row;
      }

    -- the tree is done
    pub before_turn : {out₀ out : List ℕ} {next₀ next w : ℕ}
        → Behind trees test cs d top out₀ next₀ i
        → Within trees test cs out₀ next₀ (at top (at cs i)) (at cs (j - 1)) out next w
        → at cs (j - 1) ≤ w → Behind trees test cs d top out next j
    before_turn {w = w} b t e = record {
      few = q.to;
      pos = w;
      covered = t.carries d (at_root b);
      done = λ k l. omega (arith, contexts_rise pre.contexts k (j - 1) (omega arith) last_in_lem.0);
      ahead = λ k a l.
          let c = less in
          omega (
            arith,
            t.to,
            later_root trees.shape pre.contexts roots m q k a l,
            q.before (j - 1) (omega arith) (omega arith),
          );
    }
