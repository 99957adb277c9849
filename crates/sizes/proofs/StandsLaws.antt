-- A row that was found, and the sizes above it: its own size, `row_asks`. A root: only its own size rises,
-- `root_raised`. A row under a parent: the sizes from its parent up may change, `child_resizable`, and are those of its
-- ancestors, `child_resized`; its own size is as it was, `child_asks`, and rises last, `child_raised`. Assumes nothing.
use mathlib.Core.Path.{◌≡◌, sym, ap, ◌∙◌}
use mathlib.Core.Bool.{true}
use mathlib.Core.List.{List}
use Prim.Native.Nat.{ℕ, suc, ◌+◌, ◌-◌, ◌≤◌, ◌<◌}
use native.Mathlib.Omega.{arith}
use lib.ListN.{length, set}
use Rattle.tree.specs.Table.{most_rows, at}
use Rattle.tree.specs.Tree.{parent, ancestor}
use Rattle.tree.specs.Edit.{changed}
use Rattle.tree.specs.Outcome.{row_there}
use Rattle.tree.specs.declared.Child.{Child}
use Rattle.tree.specs.declared.Located.{Located}
use Rattle.tree.specs.declared.Located.TheVariants.{Root, Under}
use Rattle.tree.proofs.TreeLaws.{parent_below}
use Rattle.tree.proofs.SoundLaws.{shape_fits}
use Rattle.tree.proofs.StandingLaws.{root_stands, under_stands, root_level}
use Rattle.tree.proofs.LevelLaws.{ancestor_step, not_own, root_alone}
use Rattle.tree.proofs.ColumnLaws.{changed_not, changed_none, changed_ext, changed_set, set_changed, length_changed}
use Rattle.sizes.specs.Upward.{up_from, resized, Resizable, Stands}

-- the row has a size, in bounds
pub row_asks : {size level : List ℕ} {n : ℕ} {f : Located} → Stands size level n f
    → (row_there f < length size) × (at size (row_there f) ≤ 4096)
row_asks {f = f} s = (
  omega (arith, s.in_use, s.shape.in_size),
  omega (arith, shape_fits s.shape (row_there f) s.in_use, s.shape.few),
)

module _ {size level : List ℕ} {n : ℕ} where
  -- ── a root ──
  pub root_raised : (r by : ℕ) → Stands size level n (Root r)
      → set size r (at size r + by) ≡ changed (up_from level r) (λ z. z + by) size
  root_raised r by s =
      let top = (root_level s.shape r s.in_use).0 (root_stands level r r (sym s.there)).1 in
      sym (changed_none _ _ _ (root_alone s.shape r s.in_use top))
      ∙ changed_set (λ i. ancestor level i r) (λ z. z + by) size r (not_own s.shape r s.in_use)

  -- ── a row under a parent ──
  module _ (c : Child) (s : Stands size level n (Under c)) where
    up : parent level c.row ≡ suc c.parent
    up = (under_stands level c.row c (sym s.there)).2

    -- its ancestors are its parent and the rows above that
    same : (i : ℕ) → ancestor level i c.row ≡ up_from level c.parent i
    same i = ancestor_step s.shape i c.row c.parent s.in_use up

    pub child_resizable : (more less : ℕ) → more ≤ most_rows
        → ((i : ℕ) → ancestor level i c.row ≡ true → less ≤ at size i)
        → Resizable size level n c.parent more less
    child_resizable more less few h = record {
      shape = s.shape;
      in_use = omega (arith, s.in_use, parent_below level c.row c.parent up);
      few = few;
      holds = λ i e. h i (same i ∙ e);
    }

    pub child_resized : (more less : ℕ) (g : ℕ → ℕ) → ((z : ℕ) → z + more - less ≡ g z)
        → resized level c.parent more less size ≡ changed (λ i. ancestor level i c.row) g size
    child_resized more less g e = changed_ext _ _ _ _ size (λ i. sym (same i)) e

    module _ (by : ℕ) {mid : List ℕ} (above : mid ≡ changed (λ i. ancestor level i c.row) (λ z. z + by) size) where
      pub child_asks : (c.row < length mid) × (at mid c.row ≤ 4096)
      child_asks =
          let (inside, small) = row_asks s in
          let still : at mid c.row ≡ at size c.row =
          ap (λ (m : List ℕ). at m c.row) above
          ∙ changed_not (λ i. ancestor level i c.row) (λ z. z + by) size c.row
          (not_own s.shape c.row s.in_use) in (
            omega (arith, inside, ap length above, length_changed (λ i. ancestor level i c.row) (λ z. z + by) size),
            omega (arith, small),
          )

      pub child_raised : set mid c.row (at mid c.row + by) ≡ changed (up_from level c.row) (λ z. z + by) size
      child_raised =
          ap (λ (m : List ℕ). set m c.row (at m c.row + by)) above
          ∙ set_changed (λ i. ancestor level i c.row) (λ z. z + by) size c.row
          (not_own s.shape c.row s.in_use)
