-- One context more on the axis child: `children_asks`, `children_done`. Assumes nothing.
use Prim.Native.Nat.{ℕ, suc, ◌+◌, ◌<◌}
use mathlib.Core.Path.{◌≡◌, refl, sym, ◌∙◌}
use mathlib.Core.Bool.{true, ◌&&◌}
use mathlib.Core.List.{List}
use native.Mathlib.Omega.{arith}
use borrow.Author.Tests.{eqb-true, eq-eqb, ltb-true, lt-ltb}
use lib.Dec.{eqb, ltb}
use lib.ListN.{take}
use Rattle.tree.specs.Table.{at}
use Rattle.tree.specs.Tree.{parent}
use Rattle.tree.specs.Axis.{on_axis}
use Rattle.tree.proofs.TreeLaws.{parent_below}
use Rattle.tree.proofs.SoundLaws.{both, both_of}
use Rattle.tree.proofs.AxisLaws.{same_test}
use Rattle.scan.specs.declared.trees.Trees.{Trees}
use Rattle.marks.specs.RowSet.{Marked}
use Rattle.marks.specs.Mark.{child_in, Joined, AddsChildren, Turn}
use Rattle.tree.proofs.SubtreeLaws.{child_within}
use Rattle.marks.proofs.ChildWalkLaws.{child_first, ChildIn, child_in_lem, in_child}
use Rattle.marks.proofs.ContextLaws.{marked_also, turn_row, turn_fits, turn_take}

-- what the axis means
module _ (level : List ℕ) (c w : ℕ) where
  axis_child : on_axis 2 level c w ≡ eqb (parent level w) (suc c)
  unfolding on_axis
  axis_child = refl

  child_on : on_axis 2 level c w ≡ true → parent level w ≡ suc c
  child_on e = eqb-true (parent level w) (suc c) (sym axis_child ∙ e)

  on_child : parent level w ≡ suc c → on_axis 2 level c w ≡ true
  on_child e = axis_child ∙ eq-eqb (parent level w) (suc c) e

module _ {trees : Trees} {cs : List ℕ} {i : ℕ} {old : List ℕ}
    (t : Turn 2 trees cs i (take i cs) old) where
  -- the context, and the row after its descendants
  abbrev C : ℕ
  C = at cs i

  abbrev E : ℕ
  E = C + at trees.size.now C + 1

  before_end : (w : ℕ) → w < E → w < trees.count
  before_end w l = omega (arith, turn_fits t)

  first : C + 1 < E → parent trees.level.now (C + 1) ≡ suc C
  first l = child_first trees.shape C (turn_row t) (omega arith)

  -- a child that is in was put there by a context equal to this one
  pub children_asks : AddsChildren trees C (C + 1) E old
  children_asks = record {
    row = turn_row t;
    after = omega arith;
    inside = omega arith;
    child = first;
    whole = λ l x w y.
        let g : ChildIn trees.level.now C (C + 1) E w = child_in_lem trees.level.now C (C + 1) E w y in
        marked_also t.marked (C + 1) w (before_end (C + 1) l) (before_end w g.before)
        (λ k m z. let d : ℕ = at (take i cs) k in
        on_child trees.level.now d w (g.child ∙ sym (first l) ∙ child_on trees.level.now d (C + 1) z))
        x;
  }

  -- the children up to the end are all the children
  child_same : (w : ℕ) → child_in trees.level.now C (C + 1) E w ≡ (ltb w trees.count && on_axis 2 trees.level.now C w)
  child_same w = same_test _ _ there back
    where
      there : child_in trees.level.now C (C + 1) E w ≡ true
          → (ltb w trees.count && on_axis 2 trees.level.now C w) ≡ true
      there x =
          let g : ChildIn trees.level.now C (C + 1) E w = child_in_lem trees.level.now C (C + 1) E w x in
          both_of (lt-ltb w trees.count (before_end w g.before)) (on_child trees.level.now C w g.child)

      back : (ltb w trees.count && on_axis 2 trees.level.now C w) ≡ true → child_in trees.level.now C (C + 1) E w ≡ true
      back x =
          let y = both (ltb w trees.count) (on_axis 2 trees.level.now C w) x in
          let e : parent trees.level.now w ≡ suc C = child_on trees.level.now C w y.1 in
          in_child trees.level.now C (C + 1) E w record {
            child = e;
            from = omega (arith, parent_below trees.level.now w C e);
            before = omega (arith, child_within trees.shape C w (ltb-true w trees.count y.0) e);
          }

  pub children_done : {new : List ℕ} → Joined (child_in trees.level.now C (C + 1) E) old new
      → Marked 2 trees (take (i + 1) cs) new
  children_done j = turn_take t (child_in trees.level.now C (C + 1) E) j (λ w l. child_same w) refl
