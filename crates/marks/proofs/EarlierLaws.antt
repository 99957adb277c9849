-- One context more on the axis preceding-sibling, from the last to the first: `earlier_none`, `earlier_asks`,
-- `earlier_done`. Assumes nothing.
use Prim.Native.Nat.{ℕ, suc, ◌+◌, ◌<◌, ◌≤◌}
use mathlib.Core.Path.{◌≡◌, refl, sym, ◌∙◌}
use mathlib.Core.Bool.{true, ◌&&◌}
use mathlib.Core.List.{List}
use native.Mathlib.Omega.{arith}
use borrow.Author.Tests.{lt-ltb}
use lib.Dec.{ltb}
use lib.ListN.{length, drop, length-drop}
use lib.Seq.{get_or-drop}
use Rattle.tree.specs.Table.{at}
use Rattle.tree.specs.Tree.{parent}
use Rattle.tree.specs.Axis.{on_axis}
use Rattle.tree.proofs.TreeLaws.{parent_below}
use Rattle.tree.proofs.SoundLaws.{both, both_of}
use Rattle.tree.proofs.AxisLaws.{same_test, false_of}
use Rattle.scan.specs.declared.trees.Trees.{Trees}
use Rattle.marks.specs.RowSet.{Marked}
use Rattle.marks.specs.Mark.{child_in, Joined, AddsChildren, Turn}
use Rattle.tree.proofs.SubtreeLaws.{child_within}
use Rattle.marks.proofs.ChildWalkLaws.{child_first, ChildIn, child_in_lem, in_child}
use Rattle.marks.proofs.ContextLaws.{marked_also, turn_row, turn_drop, none_drop}
use Rattle.marks.proofs.SiblingLaws.{earlier_on, on_earlier}

module _ {trees : Trees} {cs : List ℕ} {i : ℕ} {old : List ℕ}
    (t : Turn 11 trees cs i (drop (i + 1) cs) old) where
  -- the context
  abbrev C : ℕ
  C = at cs i

  -- row 0 has no siblings
  pub earlier_none : parent trees.level.now C ≡ 0 → Marked 11 trees (drop i cs) old
  earlier_none e = none_drop t
      (λ w. false_of (on_axis 11 trees.level.now C w) (λ x. omega (arith, (earlier_on trees.level.now C w x).0.some)))
      refl

  -- no context that was marked is before this one
  from_last : (k : ℕ) → k < length (drop (i + 1) cs) → C ≤ at (drop (i + 1) cs) k
  from_last k l =
      let e : at (drop (i + 1) cs) k ≡ at cs (i + 1 + k) = get_or-drop (i + 1) cs k 0 in
      omega (arith, t.contexts.rising i (i + 1 + k) (omega arith) (omega (arith, length-drop (i + 1) cs)))

  module _ (p : ℕ) (e : parent trees.level.now C ≡ suc p) where
    within : C ≤ p + at trees.size.now p
    within = child_within trees.shape p C (turn_row t) e

    before_context : (w : ℕ) → w < C → w < trees.count
    before_context w l = omega (arith, turn_row t)

    first : p + 1 < C → parent trees.level.now (p + 1) ≡ suc p
    first l = child_first trees.shape p (before_context p (omega arith)) (omega (arith, within))

    -- an earlier sibling that is in was put there by a context not before this one, which reaches all before this
    -- one
    pub earlier_asks : AddsChildren trees p (p + 1) C old
    earlier_asks = record {
      row = before_context p (parent_below trees.level.now C p e);
      after = omega arith;
      inside = omega (arith, within);
      child = first;
      whole = λ l x w y.
          let g : ChildIn trees.level.now p (p + 1) C w = child_in_lem trees.level.now p (p + 1) C w y in
          marked_also t.marked (p + 1) w (before_context (p + 1) l) (before_context w g.before)
          (λ k m z. let d : ℕ = at (drop (i + 1) cs) k in
          let h = earlier_on trees.level.now d (p + 1) z in
          on_earlier trees.level.now d w
          record { some = h.0.some; same = g.child ∙ sym (first l) ∙ h.0.same }
          (omega (arith, from_last k m, g.before)))
          x;
    }

    -- the children of the parent before the context are its earlier siblings
    earlier_same : (w : ℕ)
        → child_in trees.level.now p (p + 1) C w ≡ (ltb w trees.count && on_axis 11 trees.level.now C w)
    earlier_same w = same_test _ _ there back
      where
        there : child_in trees.level.now p (p + 1) C w ≡ true
            → (ltb w trees.count && on_axis 11 trees.level.now C w) ≡ true
        there x =
            let g : ChildIn trees.level.now p (p + 1) C w = child_in_lem trees.level.now p (p + 1) C w x in
            both_of (lt-ltb w trees.count (before_context w g.before))
            (on_earlier trees.level.now C w record { some = omega arith; same = g.child ∙ sym e } g.before)

        back : (ltb w trees.count && on_axis 11 trees.level.now C w) ≡ true
            → child_in trees.level.now p (p + 1) C w ≡ true
        back x =
            let h = earlier_on trees.level.now C w (both (ltb w trees.count) (on_axis 11 trees.level.now C w) x).1 in
            let g : parent trees.level.now w ≡ suc p = h.0.same ∙ e in
            in_child trees.level.now p (p + 1) C w record {
              child = g;
              from = omega (arith, parent_below trees.level.now w p g);
              before = h.1;
            }

    pub earlier_done : {new : List ℕ} → Joined (child_in trees.level.now p (p + 1) C) old new
        → Marked 11 trees (drop i cs) new
    earlier_done j = turn_drop t (child_in trees.level.now p (p + 1) C) j (λ w l. earlier_same w) refl
