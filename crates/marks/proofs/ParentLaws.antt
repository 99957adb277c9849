-- One context more on the axis parent: `parent_done`, and `parent_none` where it has none. Assumes nothing.
use Prim.Native.Nat.{ℕ, suc, ◌+◌}
use mathlib.Core.Path.{◌≡◌, refl, sym, ◌∙◌}
use mathlib.Core.Bool.{true, ◌&&◌}
use mathlib.Core.List.{List}
use native.Mathlib.Omega.{arith}
use borrow.Author.Tests.{eqb-true, eq-eqb, ne_eqb, lt-ltb}
use lib.Dec.{eqb, ltb}
use lib.ListN.{take}
use Rattle.tree.specs.Table.{at}
use Rattle.tree.specs.Tree.{parent}
use Rattle.tree.specs.Axis.{on_axis}
use Rattle.tree.proofs.TreeLaws.{parent_below}
use Rattle.tree.proofs.SoundLaws.{both, both_of}
use Rattle.tree.proofs.AxisLaws.{same_test, axis_parent}
use Rattle.scan.specs.declared.trees.Trees.{Trees}
use Rattle.marks.specs.RowSet.{Marked}
use Rattle.marks.specs.Mark.{Joined, Turn}
use Rattle.marks.proofs.ContextLaws.{turn_row, turn_take, none_take}

module _ {trees : Trees} {cs : List ℕ} {i : ℕ} {old : List ℕ}
    (t : Turn 5 trees cs i (take i cs) old) where
  -- the context
  abbrev C : ℕ
  C = at cs i

  -- row 0 has no parent
  pub parent_none : parent trees.level.now C ≡ 0 → Marked 5 trees (take (i + 1) cs) old
  parent_none e = none_take t
      (λ w. axis_parent trees.level.now C w
      ∙ ne_eqb (parent trees.level.now C) (suc w) (λ (z : parent trees.level.now C ≡ suc w). omega arith))
      refl

  pub parent_done : (p : ℕ) → parent trees.level.now C ≡ suc p → {new : List ℕ}
      → Joined (λ w. eqb w p) old new → Marked 5 trees (take (i + 1) cs) new
  parent_done p e j = turn_take t (λ w. eqb w p) j (λ w l. same_test _ _ (there w) (back w)) refl
    where
      there : (w : ℕ) → eqb w p ≡ true → (ltb w trees.count && on_axis 5 trees.level.now C w) ≡ true
      there w z =
          let g : w ≡ p = eqb-true w p z in
          both_of (lt-ltb w trees.count (omega (arith, parent_below trees.level.now C p e, turn_row t)))
          (axis_parent trees.level.now C w ∙ eq-eqb (parent trees.level.now C) (suc w) (omega arith))

      back : (w : ℕ) → (ltb w trees.count && on_axis 5 trees.level.now C w) ≡ true → eqb w p ≡ true
      back w z =
          let y = both (ltb w trees.count) (on_axis 5 trees.level.now C w) z in
          let g : parent trees.level.now C ≡ suc w = eqb-true _ _ (sym (axis_parent trees.level.now C w) ∙ y.1) in
          eq-eqb w p (omega arith)
