-- Contexts of one parent reach the later siblings of the first of them, which are children of the parent. The first is
-- a row in use, `first_row`; a root reaches nothing, `first_none`; what the walk over the children asks for, `first-
-- asks`, and leaves, `first_done`. Assumes nothing.
use Prim.Native.Nat.{ℕ, suc, ◌+◌, ◌-◌, ◌<◌, ◌≤◌}
use mathlib.Core.Path.{◌≡◌, refl, sym, ap, ap₂, ◌∙◌}
use mathlib.Core.Bool.{Bool, true, false, ◌&&◌, and-true, true≢false}
use mathlib.Core.List.{List, ◌++◌}
use native.Mathlib.Nat.{le_refl}
use native.Mathlib.Omega.{arith}
use borrow.Author.Tests.{lt-ltb, le-leb}
use lib.Dec.{eqb}
use lib.ListN.{length}
use Rattle.tree.specs.Table.{at}
use Rattle.tree.specs.Tree.{parent}
use Rattle.tree.specs.Axis.{on_axis}
use Rattle.tree.proofs.TreeLaws.{parent_below}
use Rattle.tree.proofs.SearchLaws.{gather_zero, gather_skip}
use Rattle.tree.proofs.SoundLaws.{shape_fits, both_of}
use Rattle.tree.proofs.AxisLaws.{false_of}
use Rattle.scan.specs.Want.{accepts}
use Rattle.scan.specs.Range.{rows_in, Appended}
use Rattle.scan.specs.OneRole.{any_on, one_role, RoleIn, Parents, Wrote}
use Rattle.scan.proofs.WroteLaws.{wrote_as}
use Rattle.scan.proofs.AppendedLaws.{appended_front}
use Rattle.scan.proofs.ScanLaws.{rows_join, rows_same}
use Rattle.scan.proofs.RangeLaws.{contexts_rise, any_hit, any_miss, cover_start, cover_done}
use Rattle.marks.specs.Mark.{child_in}
use Rattle.direct.specs.Children.{child_that, ChildrenIn}
use Rattle.later.specs.Later.{OneParent}
use Rattle.marks.proofs.ChildWalkLaws.{ChildIn, child_in_lem}
use Rattle.marks.proofs.SiblingLaws.{later_on, on_later}
use Rattle.marks.proofs.LaterLaws.{no_later, later_parent, later_row, later_from, later_first, later_same}
use Rattle.scan.specs.declared.trees.Trees.{Trees}
use Rattle.scan.specs.declared.want.NodeTest.{NodeTest}

module _ {trees : Trees} {up : List ℕ} {test : NodeTest} {cs out : List ℕ} (pre : RoleIn 10 trees test cs out)
    (parents : Parents trees.level.now trees.count up) (one : OneParent up cs) where
  -- the first context, and the test
  abbrev C : ℕ
  C = at cs 0

  abbrev fit : ℕ → Bool
  fit = accepts test

  pub first_row : at cs 0 < trees.count
  first_row = pre.contexts.inside 0 one.some

  same_parent : (k : ℕ) → k < length cs → parent trees.level.now (at cs k) ≡ parent trees.level.now C
  same_parent k l =
      sym (parents.parents (at cs k) (pre.contexts.inside k l)) ∙ one.same k l ∙ parents.parents C first_row

  -- they reach what the first reaches
  first_reaches : (w : ℕ) → any_on 10 trees.level.now cs w ≡ on_axis 10 trees.level.now C w
  first_reaches w = go (on_axis 10 trees.level.now C w) refl
    where
      go : (b : Bool) → on_axis 10 trees.level.now C w ≡ b → any_on 10 trees.level.now cs w ≡ b
      go true e = any_hit 10 trees.level.now cs w 0 one.some e
      go false e = any_miss 10 trees.level.now cs w (λ k l. false_of (on_axis 10 trees.level.now (at cs k) w) (λ t.
          let g = later_on trees.level.now (at cs k) w t in
          let p = same_parent k l in
          true≢false (sym (on_later trees.level.now C w
          record { some = omega (arith, g.0.some); same = g.0.same ∙ p }
          (omega (arith, g.1, contexts_rise pre.contexts 0 k (omega arith) l))) ∙ e)))

  -- a root reaches nothing
  pub first_none : at up (at cs 0) ≡ 0 → Wrote (one_role 10 trees.level.now trees.count fit cs) out 0 out
  first_none e = cover_done (cover_start pre) (λ w l m.
      first_reaches w ∙ no_later trees.level.now C (sym (parents.parents C first_row) ∙ e) w)

  module _ (some : at up (at cs 0) ≡ 0 → ⊥) where
    abbrev p : ℕ
    p = at up C - 1

    -- the row after the descendants of the context, and the row after the parent's
    abbrev A : ℕ
    A = C + at trees.size.now C + 1

    abbrev E : ℕ
    E = p + at trees.size.now p + 1

    is_parent : parent trees.level.now C ≡ suc p
    is_parent = omega (arith, parents.parents C first_row)

    abbrev reached : ℕ → Bool
    reached w = any_on 10 trees.level.now cs w && fit w

    reached_is : (w : ℕ) → w < trees.count → reached w ≡ (child_in trees.level.now p A E w && fit w)
    reached_is w l = ap (λ (b : Bool). b && fit w)
        (first_reaches w
        ∙ sym (later_same trees.shape C p first_row is_parent w
        ∙ ap (λ (b : Bool). b && on_axis 10 trees.level.now C w) (lt-ltb w trees.count l)))

    -- no row outside the range is reached
    outside : (w : ℕ) → w < trees.count → (A ≤ w → w < E → ⊥) → reached w ≡ false
    outside w l apart = reached_is w l ∙ ap (λ (b : Bool). b && fit w)
        (false_of (child_in trees.level.now p A E w) (λ t.
        let g : ChildIn trees.level.now p A E w = child_in_lem trees.level.now p A E w t in apart g.from g.before))

    -- in the range the children are
    inside : (w : ℕ) → A ≤ w → w < E → reached w ≡ child_that fit trees.level.now p w
    unfolding child_in child_that
    inside w a b =
        reached_is w (later_row trees.shape C p first_row is_parent w b)
        ∙ ap (λ (x : Bool). (eqb (parent trees.level.now w) (suc p) && x) && fit w)
        (both_of (le-leb A w a) (lt-ltb w E b))
        ∙ ap (λ (x : Bool). x && fit w) (and-true (eqb (parent trees.level.now w) (suc p)))

    end_in : E ≤ trees.count
    end_in = omega (arith, shape_fits trees.shape p (later_parent trees.shape C p first_row is_parent))

    first_rows : one_role 10 trees.level.now trees.count fit cs ≡ rows_in (child_that fit trees.level.now p) A E
    unfolding one_role
    first_rows =
        let l : A ≤ E = later_from trees.shape C p first_row is_parent in
        let m = end_in in
        gather_skip reached E trees.count m (λ w x y. outside w y (λ a b. omega arith))
        ∙ rows_join reached A E l
        ∙ ap₂ ◌++◌
        (gather_skip reached 0 A (omega arith) (λ w x y. outside w (omega arith) (λ a b. omega arith))
        ∙ gather_zero reached)
        (rows_same reached (child_that fit trees.level.now p) A E inside)

    -- the end of the parent's descendants, as a row, and from the parent's link
    pub first_end : (at up (at cs 0) - 1 + at trees.size.now (at up (at cs 0) - 1) < trees.count)
        × (at up (at cs 0) + at trees.size.now (at up (at cs 0) - 1)
        ≡ at up (at cs 0) - 1 + at trees.size.now (at up (at cs 0) - 1) + 1)
    first_end = (omega (arith, end_in), omega arith)

    pub first_asks : {e : ℕ} → e ≡ at up (at cs 0) + at trees.size.now (at up (at cs 0) - 1)
        → ChildrenIn trees test (at up (at cs 0) - 1) (at cs 0 + at trees.size.now (at cs 0) + 1) e out 0
    first_asks {e} q = rw (q ∙ first_end.1) record {
      row = later_parent trees.shape C p first_row is_parent;
      from = record {
        after = omega (arith, parent_below trees.level.now C p is_parent);
        last = later_from trees.shape C p first_row is_parent;
        child = later_first trees.shape C p first_row is_parent;
      };
      to = record { after = omega arith; last = le_refl E; child = λ l. absurd (omega arith) };
      order = later_from trees.shape C p first_row is_parent;
      in_kind = pre.in_kind;
      in_name = pre.in_name;
      room = omega (arith, ap length first_rows, pre.room);
    }

    pub first_done : {e r : ℕ} {new : List ℕ} → e ≡ at up (at cs 0) + at trees.size.now (at up (at cs 0) - 1)
        → Appended (rows_in (child_that fit trees.level.now p) A e) out 0 r new
        → Wrote (one_role 10 trees.level.now trees.count fit cs) out r new
    first_done q w = wrote_as
        (ap (rows_in (child_that fit trees.level.now p) A) (q ∙ first_end.1) ∙ sym first_rows) (appended_front w)
