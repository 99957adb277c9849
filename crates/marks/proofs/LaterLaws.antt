-- The later siblings of a row: a root has none, `no_later`; else they are children of its parent, `later_same`, from
-- the row after its descendants on (`later_from`, `later_first`) and before the row after the parent's (`later_parent`,
-- `later_row`). One context more on following-sibling: `later_none`, `later_asks`, `later_done`. Assumes nothing.
use Prim.Native.Nat.{ℕ, suc, ◌+◌, ◌<◌, ◌≤◌}
use mathlib.Core.Path.{◌≡◌, refl, sym, ◌∙◌}
use mathlib.Core.Logic.{⊎_elim}
use mathlib.Core.Bool.{true, false, ◌&&◌}
use mathlib.Core.List.{List}
use native.Mathlib.Omega.{arith}
use borrow.Author.Tests.{ltb-true, lt-ltb}
use lib.Dec.{ltb}
use lib.ListN.{take}
use Rattle.tree.specs.Table.{at}
use Rattle.tree.specs.Tree.{parent}
use Rattle.tree.specs.Axis.{on_axis}
use Rattle.tree.specs.Rules.{Shape}
use Rattle.tree.proofs.TreeLaws.{less?, parent_below}
use Rattle.tree.proofs.SoundLaws.{shape_fits, both, both_of}
use Rattle.tree.proofs.AxisLaws.{same_test, false_of}
use Rattle.scan.proofs.SideLaws.{nests}
use Rattle.scan.specs.declared.trees.Trees.{Trees}
use Rattle.marks.specs.RowSet.{Marked}
use Rattle.marks.specs.Mark.{child_in, Joined, AddsChildren, Turn}
use Rattle.tree.proofs.SubtreeLaws.{child_within}
use Rattle.marks.proofs.ChildWalkLaws.{child_next, child_none, ChildIn, child_in_lem, in_child}
use Rattle.marks.proofs.ContextLaws.{marked_also, turn_row, turn_take, none_take}
use Rattle.marks.proofs.SiblingLaws.{later_on, on_later}

-- a root has none
pub no_later : (level : List ℕ) (c : ℕ) → parent level c ≡ 0 → (w : ℕ) → on_axis 10 level c w ≡ false
no_later level c e w =
    false_of (on_axis 10 level c w) (λ x. omega (arith, (later_on level c w x).0.some))

-- ── the later siblings of a row ──
module _ {size level : List ℕ} {n : ℕ} (s : Shape size level n) (c p : ℕ) (here : c < n)
    (e : parent level c ≡ suc p) where
  -- the row after its descendants, and the row after the parent's
  abbrev A : ℕ
  A = c + at size c + 1

  abbrev E : ℕ
  E = p + at size p + 1

  -- the parent is a row in use, and so are the rows before the end
  pub later_parent : p < n
  later_parent = omega (arith, parent_below level c p e)

  pub later_row : (w : ℕ) → w < p + at size p + 1 → w < n
  later_row w l = omega (arith, shape_fits s p later_parent)

  -- its descendants end before the parent's
  pub later_from : c + at size c + 1 ≤ p + at size p + 1
  later_from =
      omega (arith, (nests s).within p c later_parent (parent_below level c p e) (child_within s p c here e))

  -- the row after them is the first, where there are any
  pub later_first : c + at size c + 1 ≤ p + at size p → parent level (c + at size c + 1) ≡ suc p
  later_first l = child_next s p c later_parent here e l

  -- the children of the parent from there on are the later siblings
  pub later_same : (w : ℕ) → child_in level p A E w ≡ (ltb w n && on_axis 10 level c w)
  later_same w = same_test _ _ there back
    where
      there : child_in level p A E w ≡ true → (ltb w n && on_axis 10 level c w) ≡ true
      there x =
          let g : ChildIn level p A E w = child_in_lem level p A E w x in
          both_of (lt-ltb w n (later_row w g.before))
          (on_later level c w record { some = omega arith; same = g.child ∙ sym e } (omega (arith, g.from)))

      back : (ltb w n && on_axis 10 level c w) ≡ true → child_in level p A E w ≡ true
      back x =
          let y = both (ltb w n) (on_axis 10 level c w) x in
          let h = later_on level c w y.1 in
          let g : parent level w ≡ suc p = h.0.same ∙ e in
          in_child level p A E w record {
            child = g;
            from = ⊎_elim
                (λ (z : w < A). absurd (child_none s p c w here e h.1 (omega arith) g))
                (λ z. z)
                (less? w A);
            before = omega (arith, child_within s p w (ltb-true w n y.0) g);
          }

-- ── one context more ──
module _ {trees : Trees} {cs : List ℕ} {i : ℕ} {old : List ℕ}
    (t : Turn 10 trees cs i (take i cs) old) where
  -- the context
  abbrev C : ℕ
  C = at cs i

  -- a root has no siblings
  pub later_none : parent trees.level.now C ≡ 0 → Marked 10 trees (take (i + 1) cs) old
  later_none e = none_take t (no_later trees.level.now C e) refl

  module _ (p : ℕ) (e : parent trees.level.now C ≡ suc p) where
    -- the row after its descendants, and the row after the parent's
    abbrev from : ℕ
    from = C + at trees.size.now C + 1

    abbrev end : ℕ
    end = p + at trees.size.now p + 1

    next : from < end → parent trees.level.now from ≡ suc p
    next l = later_first trees.shape C p (turn_row t) e (omega arith)

    -- a later sibling that is in was put there by a context before it, which reaches all after it
    pub later_asks : AddsChildren trees p (C + at trees.size.now C + 1) (p + at trees.size.now p + 1) old
    later_asks = record {
      row = later_parent trees.shape C p (turn_row t) e;
      after = omega (arith, parent_below trees.level.now C p e);
      inside = omega arith;
      child = next;
      whole = λ l x w y.
          let g : ChildIn trees.level.now p from end w = child_in_lem trees.level.now p from end w y in
          marked_also t.marked from w (later_row trees.shape C p (turn_row t) e from l)
          (later_row trees.shape C p (turn_row t) e w g.before)
          (λ k m z. let d : ℕ = at (take i cs) k in
          let h = later_on trees.level.now d from z in
          on_later trees.level.now d w
          record { some = h.0.some; same = g.child ∙ sym (next l) ∙ h.0.same }
          (omega (arith, h.1, g.from)))
          x;
    }

    pub later_done : {new : List ℕ} → Joined (child_in trees.level.now p from end) old new
        → Marked 10 trees (take (i + 1) cs) new
    later_done j =
        turn_take t (child_in trees.level.now p from end) j (λ w l. later_same trees.shape C p (turn_row t) e w) refl
