-- A step seen in one tree of a table is the step on that tree alone, as a table of its own: RULES 02, E2. Its pairs
-- there are `pairs_in_lem` and fit the tree, `pairs_fit`. The lines in the tree are those that the step on the tree
-- lists, `step_part`; the pairs that remain there for the kept count are those that remain in the tree, `kept_part`.
-- Assumes nothing.
use mathlib.Core.Path.{◌≡◌, refl, sym, ap, ap₂, subst, ◌∙◌}
use mathlib.Core.Logic.{inl, inr, ⊎_elim, ◌↔◌}
use mathlib.Core.Bool.{Bool, true, false, cond, not, ◌&&◌, ◌||◌, true≢false, and-false}
use mathlib.Core.List.{List, [], ◌∷◌}
use Prim.Native.Nat.{ℕ, ◌+◌, ◌-◌, ◌<◌, ◌≤◌}
use native.Mathlib.Omega.{arith}
use borrow.Author.Tests.{ne_eqb, not-false}
use lib.Dec.{eqb}
use Rattle.tree.specs.Table.{Table, at}
use Rattle.tree.specs.Rules.{Sound}
use Rattle.tree.specs.Tree.{same_tree}
use Rattle.tree.specs.Axis.{on_axis}
use Rattle.tree.specs.Test.{passes}
use Rattle.tree.specs.Pairs.{Pair, pair, pairs_of, roles_of, rows_of, some}
use Rattle.tree.specs.Step.{Ask, step_list}
use Rattle.tree.specs.StepRules.{PairsFit}
use Rattle.tree.specs.Kept.{drops, remaining}
use Rattle.tree.specs.Carry.{carried_by}
use Rattle.tree.specs.Trees.{tree_at, pairs_in}
use Rattle.tree.proofs.SoundLaws.{shape_steps, sound_shape}
use Rattle.tree.proofs.AxisLaws.{false_of}
use Rattle.tree.proofs.RootLaws.{is_root, own_root, tree_range, tree_fits, same_tree_lem}
use Rattle.tree.proofs.RootLaws.{axis_tree, drops_tree}
use Rattle.tree.proofs.StepLaws.{In, Ascends, Ordered, Listed, listed_exactly, step_ascends}
use Rattle.tree.proofs.AscendLaws.{ascends_only}
use Rattle.tree.proofs.CarryLaws.{carried_gone, carried_stays, carried_in}
use Rattle.tree.proofs.CarryAccept.{pairs_stay}
use Rattle.tree.proofs.RowsInUse.{Inside}
use Rattle.tree.proofs.PartLaws.{part_at, part_axis, part_drops, eqb_up}

-- ── lists without some of their pairs ──
module _ (goes : ℕ → Bool) (to : ℕ → ℕ) where
  -- where rows that stay keep their order, an ascending list ascends
  ascends_carried : ((v w : ℕ) → goes v ≡ false → goes w ≡ false → v < w → to v < to w)
      → (ps : List Pair) → Ascends ps → Ascends (carried_by goes to ps)
  unfolding carried_by
  ascends_carried o [] s = tt
  ascends_carried o (p ∷ ps) s = go (goes p.row) refl (ascends_carried o ps s.1)
    where
      go : (b : Bool) → goes p.row ≡ b → Ascends (carried_by goes to ps)
          → Ascends (cond b (carried_by goes to ps) (pair p.role (to p.row) ∷ carried_by goes to ps))
      go true e ih = ih
      go false e ih = (
        λ q i. let z = (carried_in goes to q ps).0 i in
            ⊎_elim (λ l. inl l) (λ l. inr (l.0, rw z.3 (o p.row z.0 e z.2 l.1)))
            (s.0 (pair q.role z.0) z.1),
        ih,
      )

  -- a test of the rows that stay, by their new numbers, where it passes on no other
  some_carried : (f g : ℕ → Bool) (q : ℕ) (ps : List Pair)
      → ((p : Pair) → In p ps → goes p.row ≡ false → g (to p.row) ≡ f p.row)
      → ((p : Pair) → In p ps → goes p.row ≡ true → f p.row ≡ false)
      → some g q (carried_by goes to ps) ≡ some f q ps
  unfolding some carried_by
  some_carried f g q [] h k = refl
  some_carried f g q (p ∷ ps) h k =
      go (goes p.row) refl (some_carried f g q ps (λ d i. h d (inr i)) (λ d i. k d (inr i)))
    where
      go : (b : Bool) → goes p.row ≡ b → some g q (carried_by goes to ps) ≡ some f q ps
          → some g q (cond b (carried_by goes to ps) (pair p.role (to p.row) ∷ carried_by goes to ps))
          ≡ ((eqb p.role q && f p.row) || some f q ps)
      go false e ih = ap₂ (λ (x y : Bool). (eqb p.role q && x) || y) (h p (inl refl) e) ih
      go true e ih =
          ih ∙ ap (λ (x : Bool). x || some f q ps)
          (sym (ap (λ (x : Bool). eqb p.role q && x) (k p (inl refl) e) ∙ and-false (eqb p.role q)))

-- ── the pairs of a tree ──
-- a row of the tree of r is not before r
not_earlier : (level : List ℕ) (r w : ℕ) → at level r ≡ 0 → not (same_tree level r w) ≡ false → r ≤ w
not_earlier level r w z e =
    (is_root level w r (sym ((same_tree_lem level r w).0 (not-false _ e)) ∙ own_root level r z)).earlier

module _ (t : Table) (s : Sound t) (r : ℕ) (l : r < t.count) (z : at t.level r ≡ 0) where
  -- a row is in the tree exactly if it is the root or one of the next size rows
  in_tree : (w : ℕ) → w < t.count
      → (not (same_tree t.level r w) ≡ false) ↔ ((r ≤ w) × (w < r + (at t.size r + 1)))
  in_tree w m =
      let d = tree_range (sound_shape t s) r w l m z in (
        λ e. let a = d.0 (sym ((same_tree_lem t.level r w).0 (not-false _ e)) ∙ own_root t.level r z) in
            (a.0, omega (arith, a.1)),
        λ h. ap not ((same_tree_lem t.level r w).1
            (own_root t.level r z ∙ sym (d.1 (h.0, omega (arith, h.1))))),
      )

  -- its pairs are those on its rows
  pub pairs_in_lem : (ps : List Pair) → Inside t.count ps → (q v : ℕ)
      → In (pair q v) (pairs_in t r ps) ↔ ((v < at t.size r + 1) × In (pair q (r + v)) ps)
  unfolding pairs_in
  pairs_in_lem ps h q v = (there, back)
    where
      there : In (pair q v) (carried_by (λ w. not (same_tree t.level r w)) (λ w. w - r) ps)
          → (v < at t.size r + 1) × In (pair q (r + v)) ps
      there i =
          let (w, j, g, e) = (carried_in _ _ (pair q v) ps).0 i in
          let a = (in_tree w (h (pair q w) j)).0 g in
          let a₀ = a.0 in
          let a₁ = a.1 in
          let d : w ≡ r + v = omega arith in
          (omega arith, subst (λ (x : ℕ). In (pair q x) ps) d j)

      back : (v < at t.size r + 1) × In (pair q (r + v)) ps
          → In (pair q v) (carried_by (λ w. not (same_tree t.level r w)) (λ w. w - r) ps)
      back i =
          let m = i.0 in
          let e : v ≡ r + v - r = omega arith in
          (carried_in _ _ (pair q v) ps).1
          (r + v, i.1, (in_tree (r + v) (h _ i.1)).1 (omega arith, omega arith), e)

  -- they fit the tree
  pub pairs_fit : (role row : List ℕ) → PairsFit role row t.count
      → PairsFit (roles_of (pairs_in t r (pairs_of role row))) (rows_of (pairs_in t r (pairs_of role row)))
      (at t.size r + 1)
  unfolding pairs_in
  pairs_fit role row f =
      pairs_stay (λ w. not (same_tree t.level r w)) (λ w. w - r)
      (λ v w a b m. omega arith)
      role row t.count (at t.size r + 1)
      (λ w m e. let a = (in_tree w m).0 e in let a₀ = a.0 in let a₁ = a.1 in omega arith) f

-- ── what is listed ──
module _ (t : Table) (s : Sound t) (r : ℕ) (l : r < t.count) (z : at t.level r ≡ 0) (a : Ask) (ps : List Pair)
    (h : Inside t.count ps) where
  -- a row of the tree is listed exactly if the step on the tree alone lists it
  listed_part : (q v : ℕ) → v < at t.size r + 1
      → In (pair q (r + v)) (step_list t a ps) ↔ In (pair q v) (step_list (tree_at t r) a (pairs_in t r ps))
  listed_part q v y = (
    λ i. (listed_exactly (tree_at t r) a (pairs_in t r ps) q v).1 (there ((listed_exactly t a ps q (r + v)).0 i)),
    λ i. (listed_exactly t a ps q (r + v)).1 (back ((listed_exactly (tree_at t r) a (pairs_in t r ps) q v).0 i)),
  )
    where
      tested : passes a.test a.name (at (tree_at t r).kind v) (at (tree_at t r).name v)
          ≡ passes a.test a.name (at t.kind (r + v)) (at t.name (r + v))
      tested =
          ap₂ (passes a.test a.name) (part_at r (at t.size r + 1) t.kind v y)
          (part_at r (at t.size r + 1) t.name v y)

      there : Listed t a ps q (r + v) → Listed (tree_at t r) a (pairs_in t r ps) q v
      there k =
          let f = tree_fits (sound_shape t s) r l in
          let c : k.context < t.count = h (pair q k.context) k.held in
          let e = (same_tree_lem t.level k.context (r + v)).0
          (axis_tree t.level t.count (shape_steps (sound_shape t s)) k.context (r + v) c k.row a.axis
          k.on_axis_lem) in
          let o = (tree_range (sound_shape t s) r (r + v) l k.row z).1 (omega arith, omega arith) in
          let b = (tree_range (sound_shape t s) r k.context l c z).0 (e ∙ o) in
          let b₀ = b.0 in
          let b₁ = b.1 in
          let d : r + (k.context - r) ≡ k.context = omega arith in
          record {
            row = y;
            tested = tested ∙ k.tested;
            context = k.context - r;
            held = (pairs_in_lem t s r l z ps h q (k.context - r)).1
                (omega arith, subst (λ (x : ℕ). In (pair q x) ps) (sym d) k.held);
            on_axis_lem = part_axis (sound_shape t s) r l z a.axis (k.context - r) v (omega arith) y
                ∙ ap (λ (x : ℕ). on_axis a.axis t.level x (r + v)) d ∙ k.on_axis_lem;
          }

      back : Listed (tree_at t r) a (pairs_in t r ps) q v → Listed t a ps q (r + v)
      back k =
          let f = tree_fits (sound_shape t s) r l in
          let i = (pairs_in_lem t s r l z ps h q k.context).0 k.held in
          record {
            row = omega arith;
            tested = sym tested ∙ k.tested;
            context = r + k.context;
            held = i.1;
            on_axis_lem = sym (part_axis (sound_shape t s) r l z a.axis k.context v i.0 y) ∙ k.on_axis_lem;
          }

  -- 02: the lines in a tree are those that the step on the tree alone lists, in the same order
  pub step_part : Ordered ps → Ordered (pairs_in t r ps)
      → pairs_in t r (step_list t a ps) ≡ step_list (tree_at t r) a (pairs_in t r ps)
  unfolding pairs_in
  step_part o p =
      ascends_only _ _
      (ascends_carried _ _ (λ v w x y m. let e = not_earlier t.level r v z x in omega arith) _
      (step_ascends t a ps o))
      (step_ascends (tree_at t r) a (pairs_in t r ps) p)
      (λ q i. let x = (pairs_in_lem t s r l z (step_list t a ps) lines_inside q.role q.row).0 i in
      (listed_part q.role q.row x.0).0 x.1)
      (λ q i. let y = ((listed_exactly (tree_at t r) a (pairs_in t r ps) q.role q.row).0 i).row in
      (pairs_in_lem t s r l z (step_list t a ps) lines_inside q.role q.row).1
      (y, (listed_part q.role q.row y).1 i))
    where
      lines_inside : Inside t.count (step_list t a ps)
      lines_inside q i = ((listed_exactly t a ps q.role q.row).0 i).row

-- ── what remains ──
module _ (t : Table) (s : Sound t) (r : ℕ) (l : r < t.count) (z : at t.level r ≡ 0) (x : ℕ) (all : List Pair)
    (h : Inside t.count all) where
  -- whether a pair is dropped is told by the pairs of its tree
  dropped_part : (q : Pair) (qs : List Pair) → q.row < t.count → Inside t.count qs
      → not (same_tree t.level r q.row) ≡ false
      → (some (drops x (tree_at t r).level (q.row - r)) q.role (pairs_in t r all)
      || some (λ c. eqb c (q.row - r)) q.role (pairs_in t r qs))
      ≡ (some (drops x t.level q.row) q.role all || some (λ c. eqb c q.row) q.role qs)
  unfolding pairs_in
  dropped_part q qs y g e =
      let a = (in_tree t s r l z q.row y).0 e in
      let a₀ = a.0 in
      let a₁ = a.1 in
      let back : r + (q.row - r) ≡ q.row = omega arith in
      ap₂ (λ (c n : Bool). c || n)
      (some_carried _ _ (drops x t.level q.row) (drops x (tree_at t r).level (q.row - r)) q.role all
      (λ p j u.
      let b = (in_tree t s r l z p.row (h p j)).0 u in
      let b₀ = b.0 in
      let b₁ = b.1 in
      part_drops (sound_shape t s) r l z x (q.row - r) (p.row - r) (omega arith) (omega arith)
      ∙ ap₂ (drops x t.level) back (let c : r + (p.row - r) ≡ p.row = omega arith in c))
      (λ p j u. false_of (drops x t.level q.row p.row) (λ v.
      true≢false (sym u ∙ ap not ((same_tree_lem t.level r p.row).1
      ((same_tree_lem t.level r q.row).0 (not-false _ e)
      ∙ (same_tree_lem t.level q.row p.row).0
      (drops_tree t.level t.count (shape_steps (sound_shape t s)) q.row p.row y (h p j) x v)))))))
      (some_carried _ _ (λ c. eqb c q.row) (λ c. eqb c (q.row - r)) q.role qs
      (λ p j u.
      let b = (in_tree t s r l z p.row (g p j)).0 u in
      let b₀ = b.0 in
      sym (eqb_up r (p.row - r) (q.row - r))
      ∙ ap₂ eqb (let c : r + (p.row - r) ≡ p.row = omega arith in c) back)
      (λ p j u. ne_eqb p.row q.row (λ c.
      true≢false (sym u ∙ ap (λ (w : ℕ). not (same_tree t.level r w)) c ∙ e))))

  -- 02: the pairs that remain in a tree are those that remain in the tree alone
  pub kept_part : (qs : List Pair) → Inside t.count qs
      → pairs_in t r (remaining x t.level all qs)
      ≡ remaining x (tree_at t r).level (pairs_in t r all) (pairs_in t r qs)
  unfolding remaining pairs_in carried_by
  kept_part [] g = refl
  kept_part (q ∷ qs) g =
      go (not (same_tree t.level r q.row)) refl
      (some (drops x t.level q.row) q.role all || some (λ c. eqb c q.row) q.role qs) refl
      (kept_part qs (λ p i. g p (inr i)))
    where
      up : Pair
      up = pair q.role (q.row - r)

      left : List Pair
      left = remaining x t.level all qs

      right : List Pair
      right = remaining x (tree_at t r).level (pairs_in t r all) (pairs_in t r qs)

      go : (b : Bool) → not (same_tree t.level r q.row) ≡ b → (c : Bool)
          → (some (drops x t.level q.row) q.role all || some (λ c. eqb c q.row) q.role qs) ≡ c
          → pairs_in t r left ≡ right
          → pairs_in t r (cond c left (q ∷ left))
          ≡ remaining x (tree_at t r).level (pairs_in t r all) (cond b (pairs_in t r qs) (up ∷ pairs_in t r qs))
      go true e true d ih = ih
      go true e false d ih = carried_gone (λ w. not (same_tree t.level r w)) (λ w. w - r) q left e ∙ ih
      go false e true d ih =
          ih ∙ sym (ap (λ (k : Bool). cond k right (up ∷ right))
          (dropped_part q qs (g q (inl refl)) (λ p i. g p (inr i)) e ∙ d))
      go false e false d ih =
          carried_stays (λ w. not (same_tree t.level r w)) (λ w. w - r) q left e ∙ ap (λ (k : List Pair). up ∷ k) ih
          ∙ sym (ap (λ (k : Bool). cond k right (up ∷ right))
          (dropped_part q qs (g q (inl refl)) (λ p i. g p (inr i)) e ∙ d))
