-- Preceding-sibling where the parents do not fall from context to context. The earlier siblings of a row are children
-- of its parent, `earlier_children`: what the walk over these asks for, `earlier_asks`, and leaves, `earlier_done`; a
-- root has none, `earlier_none`. A loop over the contexts of one role that writes what each adds: `rise-..`. Assumes
-- nothing.
use Prim.Native.Nat.{ℕ, zero, suc, ◌+◌, ◌-◌, ◌<◌, ◌≤◌, max}
use mathlib.Core.Path.{◌≡◌, refl, sym, ap, ◌∙◌}
use mathlib.Core.Logic.{⊎_elim}
use mathlib.Core.Bool.{Bool, true, false, ◌&&◌, true≢false}
use mathlib.Core.List.{List, ◌++◌}
use native.Mathlib.Nat.{le_refl, not-suc-le-zero, eq-or-lt_of_le}
use native.Mathlib.Omega.{arith}
use borrow.Author.Count.{below_more}
use borrow.Author.Tests.{eq-eqb, eqb-true}
use lib.Dec.{eqb}
use lib.ListN.{length}
use Rattle.tree.specs.Table.{at}
use Rattle.tree.specs.Tree.{parent}
use Rattle.tree.specs.Axis.{on_axis}
use Rattle.tree.specs.Rules.{Shape}
use Rattle.tree.proofs.TreeLaws.{less?, parent_below}
use Rattle.tree.proofs.AxisLaws.{same_test, false_of}
use Rattle.scan.specs.Want.{accepts}
use Rattle.scan.specs.OneRole.{any_on, one_role, RoleIn, Parents, Wrote}
use Rattle.scan.specs.Range.{rows_in, Appended}
use Rattle.scan.proofs.AppendedLaws.{appended_as, appended_none}
use Rattle.scan.proofs.ScanLaws.{rows_cut, rows_skip, rows_same}
use Rattle.scan.proofs.RangeLaws.{contexts_rise, any_hit, any_miss, Covered, cover_start, cover_done}
use Rattle.scan.proofs.RangeLaws.{part_room, cover_part}
use Rattle.tree.proofs.SubtreeLaws.{child_within}
use Rattle.marks.proofs.ChildWalkLaws.{in_parent, child_first}
use Rattle.marks.proofs.SiblingLaws.{earlier_on, on_earlier}
use Rattle.direct.specs.Children.{child_that, ChildrenIn}
use Rattle.direct.specs.Earlier.{earlier_from, EarlierIn, ParentsRise}
use Rattle.scan.specs.declared.trees.Trees.{Trees}
use Rattle.scan.specs.declared.want.NodeTest.{NodeTest}

-- a row between a row and its parent has no parent before that one
inner_parent : {size level : List ℕ} {n : ℕ} → Shape size level n → (c p d : ℕ) → c < n → parent level c ≡ suc p
    → p < d → d ≤ c → suc p ≤ parent level d
inner_parent {level = level} s c p d l e a b =
    in_parent s p d (omega (arith, parent_below level c p e)) a (omega (arith, child_within s p c l e))

-- ── the earlier siblings of a row ──
module _ {trees : Trees} {up : List ℕ} {test : NodeTest} {v c : ℕ} {out : List ℕ} {written : ℕ}
    (h : EarlierIn trees up test v c out written) where
  abbrev fit : ℕ → Bool
  fit = accepts test

  -- a root has none
  pub earlier_none : at up c ≡ 0 → Appended (earlier_from trees.level.now v c fit) out written written out
  unfolding earlier_from
  earlier_none z = appended_as
      (sym (rows_skip _ v c (λ w x y. ap (λ (b : Bool). b && fit w) (false_of (on_axis 11 trees.level.now c w)
      (λ t. omega (arith, (earlier_on trees.level.now c w t).0.some, h.parents.parents c h.row))))))
      (appended_none out written)

  module _ {q p : ℕ} (is : q ≡ at up c) (some : q ≡ suc p) {a : ℕ} (from : a ≡ max q v) where
    is_parent : parent trees.level.now c ≡ suc p
    is_parent = sym (h.parents.parents c h.row) ∙ sym is ∙ some

    -- the walk starts at a child, and not before v
    low : (v ≤ a) × (p < a) × (a ≤ c)
    low = omega (arith, parent_below trees.level.now c p is_parent, h.order)

    -- before the row, its siblings are the children of p
    on_child : (w : ℕ) → w < c → on_axis 11 trees.level.now c w ≡ eqb (parent trees.level.now w) (suc p)
    on_child w l = same_test _ _
        (λ t. eq-eqb (parent trees.level.now w) (suc p) ((earlier_on trees.level.now c w t).0.same ∙ is_parent))
        (λ t. on_earlier trees.level.now c w
        record {
          some = omega (arith, is_parent);
          same = eqb-true (parent trees.level.now w) (suc p) t ∙ sym is_parent;
        } l)

    abbrev earlier : ℕ → Bool
    earlier w = on_axis 11 trees.level.now c w && fit w

    -- of the rows that are passed over none is a child
    earlier_children : earlier_from trees.level.now v c fit ≡ rows_in (child_that fit trees.level.now p) a c
    unfolding earlier_from child_that
    earlier_children =
        rows_cut earlier v a c low.0 low.2
        ∙ ap (λ (xs : List ℕ). xs ++ rows_in earlier a c)
        (rows_skip earlier v a (λ w x y. ap (λ (b : Bool). b && fit w) (false_of (on_axis 11 trees.level.now c w) (λ t.
        omega (arith, parent_below trees.level.now w p ((earlier_on trees.level.now c w t).0.same ∙ is_parent))))))
        ∙ rows_same earlier (child_that fit trees.level.now p) a c
        (λ w x y. ap (λ (b : Bool). b && fit w) (on_child w y))

    within : c ≤ p + at trees.size.now p
    within = child_within trees.shape p c h.row is_parent

    starts : a ≤ p + at trees.size.now p → parent trees.level.now a ≡ suc p
    starts l = ⊎_elim
        (λ (x : v < q).
        let e : a ≡ p + 1 = omega arith in
        ap (parent trees.level.now) e
        ∙ child_first trees.shape p (omega (arith, low, h.row)) (omega (arith, low, within)))
        (λ (x : q ≤ v).
        let e : a ≡ v = omega arith in
        ap (parent trees.level.now) e ∙ h.from p is_parent (omega arith))
        (less? v q)

    pub earlier_asks : ChildrenIn trees test p a c out written
    earlier_asks = record {
      row = omega (arith, low, h.row);
      from = record { after = low.1; last = omega (arith, low, within); child = starts };
      to = record { after = omega (arith, low); last = omega (arith, within); child = λ l. is_parent };
      order = low.2;
      in_kind = h.in_kind;
      in_name = h.in_name;
      room = omega (arith, ap length earlier_children, h.room);
    }

    pub earlier_done : {r : ℕ} {new : List ℕ}
        → Appended (rows_in (child_that fit trees.level.now p) a c) out written r new
        → Appended (earlier_from trees.level.now v c fit) out written r new
    earlier_done g = appended_as (sym earlier_children) g

-- ── a loop over the contexts ──
-- the rows reached below floor are written; floor is the last context passed, or row 0, and not past the others
pub record Risen (trees : Trees) (test : NodeTest) (cs d out : List ℕ) (next floor i : ℕ) : Type 0 where
  pub index : i ≤ length cs
  pub covered : Covered 11 trees.level.now trees.count (accepts test) cs d out next floor
  pub passed : (j : ℕ) → j < i → at cs j ≤ floor
  pub ahead : (j : ℕ) → i ≤ j → j < length cs → floor ≤ at cs j
  pub last : 0 < floor → (0 < i) × (floor ≡ at cs (i - 1))

module _ {trees : Trees} {up : List ℕ} {test : NodeTest} {cs d : List ℕ} (pre : RoleIn 11 trees test cs d)
    (parents : Parents trees.level.now trees.count up) (order : ParentsRise up cs) where
  -- the parents of the contexts do not fall
  rise : (j k : ℕ) → j < k → k < length cs → parent trees.level.now (at cs j) ≤ parent trees.level.now (at cs k)
  rise j k l m = omega (
    arith,
    order.rise j k l m,
    parents.parents (at cs j) (pre.contexts.inside j (omega arith)),
    parents.parents (at cs k) (pre.contexts.inside k m),
  )

  -- a context reaches nothing from itself on
  late : (c w : ℕ) → c ≤ w → on_axis 11 trees.level.now c w ≡ false
  late c w l = false_of (on_axis 11 trees.level.now c w) (λ t. omega (arith, (earlier_on trees.level.now c w t).1))

  pub rise_start : Risen trees test cs d d 0 0 0
  rise_start = record {
    index = omega arith;
    covered = cover_start pre;
    passed = λ j l. absurd (not-suc-le-zero l);
    ahead = λ j l m. omega arith;
    last = λ l. absurd (not-suc-le-zero l);
  }

  module _ {out : List ℕ} {next floor i : ℕ}
      (s : Risen trees test cs d out next floor i) where
    -- after the last context
    pub rise_done : length cs ≤ i → Wrote (one_role 11 trees.level.now trees.count (accepts test) cs) d next out
    rise_done h = cover_done s.covered (λ w l m. any_miss 11 trees.level.now cs w
        (λ j k. late (at cs j) w (omega (arith, s.passed j (omega arith)))))

    module _ (less : i < length cs) where
      -- the context
      abbrev C : ℕ
      C = at cs i

      here : at cs i < trees.count
      here = pre.contexts.inside i less

      -- a later context that reaches a row before this one has the same parent
      same : (j w : ℕ) → i ≤ j → j < length cs → w < C → on_axis 11 trees.level.now (at cs j) w ≡ true
          → on_axis 11 trees.level.now C w ≡ true
      same j w l m b t = ⊎_elim
          (λ (x : i ≡ j). ap (λ (k : ℕ). on_axis 11 trees.level.now (at cs k) w) x ∙ t)
          (λ (x : i < j). go x (parent trees.level.now (at cs j)) refl)
          (eq-or-lt_of_le l)
        where
          go : i < j → (q : ℕ) → parent trees.level.now (at cs j) ≡ q → on_axis 11 trees.level.now C w ≡ true
          go x zero e = absurd (omega (arith, (earlier_on trees.level.now (at cs j) w t).0.some))
          go x (suc r) e =
              let g = (earlier_on trees.level.now (at cs j) w t).0 in
              let a : r < w = parent_below trees.level.now w r (g.same ∙ e) in
              let f = inner_parent trees.shape (at cs j) r C (pre.contexts.inside j m) e (omega arith)
              (contexts_rise pre.contexts i j l m) in
              let k : parent trees.level.now C ≡ parent trees.level.now (at cs j) = omega (arith, rise i j x m) in
              on_earlier trees.level.now C w record { some = omega (arith, g.some); same = g.same ∙ sym k } b

      -- from the floor on, and before the context, the rows reached are its earlier siblings
      mine : (w : ℕ) → floor ≤ w → w < C → any_on 11 trees.level.now cs w ≡ on_axis 11 trees.level.now C w
      mine w l m = go (on_axis 11 trees.level.now C w) refl
        where
          go : (b : Bool) → on_axis 11 trees.level.now C w ≡ b → any_on 11 trees.level.now cs w ≡ b
          go true e = any_hit 11 trees.level.now cs w i less e
          go false e = any_miss 11 trees.level.now cs w (λ j k. ⊎_elim
              (λ (x : j < i). late (at cs j) w (omega (arith, s.passed j x)))
              (λ (x : i ≤ j). false_of (on_axis 11 trees.level.now (at cs j) w)
              (λ t. true≢false (sym (same j w x k m t) ∙ e)))
              (less? j i))

      from_floor : floor ≤ C
      from_floor = s.ahead i (le_refl i) less

      -- the floor is not after the parent, or is a context with the same
      turn : (p : ℕ) → parent trees.level.now C ≡ suc p → p < floor → parent trees.level.now floor ≡ suc p
      turn p e l =
          let f = s.last (omega arith) in
          let g : parent trees.level.now floor ≡ parent trees.level.now (at cs (i - 1)) =
          ap (parent trees.level.now) f.1 in
          omega (
            arith,
            inner_parent trees.shape C p floor here e l from_floor,
            rise (i - 1) i (omega (arith, f.0)) less,
          )

      pub rise_asks : EarlierIn trees up test floor (at cs i) out next
      unfolding earlier_from
      rise_asks = record {
        parents = parents;
        row = here;
        order = from_floor;
        from = turn;
        in_kind = pre.in_kind;
        in_name = pre.in_name;
        room = part_room s.covered C from_floor (omega (arith, here)) (on_axis 11 trees.level.now C) mine;
      }

      pub rise_next : {r : ℕ} {new : List ℕ}
          → Appended (earlier_from trees.level.now floor (at cs i) (accepts test)) out next r new
          → Risen trees test cs d new r (at cs i) (i + 1)
      unfolding earlier_from
      rise_next g = record {
        index = omega arith;
        covered = cover_part s.covered C from_floor (omega (arith, here)) (on_axis 11 trees.level.now C) mine g;
        passed = below_more (λ (j : ℕ). at cs j ≤ C) i
            (λ j l. contexts_rise pre.contexts j i (omega arith) less) (le_refl C);
        ahead = λ j l m. contexts_rise pre.contexts i j (omega arith) m;
        last = λ l. (omega arith, ap (at cs) (let e : i ≡ i + 1 - 1 = omega arith in e));
      }
