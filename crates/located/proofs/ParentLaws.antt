-- The search for the parent of row w from a row i down, where the rows between have another level than the parent:
-- `parent_within`, the parent comes before them; `parent_here`, row i is it. Assumes nothing.
use mathlib.Core.Path.{◌≡◌, refl}
use mathlib.Core.Logic.{⊎_elim}
use mathlib.Core.List.{List}
use Prim.Native.Nat.{ℕ, zero, suc, ◌+◌, ◌<◌, ◌≤◌}
use native.Mathlib.Omega.{arith}
use Rattle.tree.specs.Table.{at}
use Rattle.tree.specs.Tree.{parent}
use Rattle.tree.proofs.TreeLaws.{less?, parent_below, parent_less, parent_skip}

module _ (level : List ℕ) (w up : ℕ) (own : at level w ≡ up + 1) where
  -- no row from i on, before w, has the parent's level
  pub parent_within : (i : ℕ) → ((j : ℕ) → i ≤ j → j < w → at level j ≡ up → ⊥) → parent level w ≤ i
  parent_within i none = go (parent level w) refl
    where
      go : (q : ℕ) → parent level w ≡ q → q ≤ i
      go zero e = omega arith
      go (suc p) e = ⊎_elim (λ (l : p < i). l)
          (λ (l : i ≤ p). absurd (none p l (parent_below level w p e) (omega (arith, parent_less level w p e))))
          (less? p i)

  -- the parent is row i or an earlier one, and row i has its level
  pub parent_here : (i : ℕ) → i < w → parent level w ≤ i + 1 → at level i ≡ up → parent level w ≡ i + 1
  parent_here i l within e = ⊎_elim
      (λ (h : parent level w < i + 1). absurd (parent_skip level w i (omega arith) l (omega arith)))
      (λ h. omega arith)
      (less? (parent level w) (i + 1))
