-- Where a row stands, by its parent: RULES 02, E3. The row is the one asked for, `stands_row`; without a parent it
-- stands as a root, `stands_root`, with one under it, `stands_under`; and back, `root_stands`, `under_stands`. In rows
-- that make trees the roots are the rows of level 0: `root_level`. Assumes nothing.
use mathlib.Core.Path.{◌≡◌, refl, ap}
use mathlib.Core.Logic.{◌↔◌}
use mathlib.Core.List.{List}
use Prim.Native.Nat.{ℕ, zero, suc, ◌<◌}
use native.Mathlib.Omega.{arith}
use native.Mathlib.Decide.{ℕ_discrete}
use Rattle.tree.specs.Table.{at}
use Rattle.tree.specs.Tree.{parent}
use Rattle.tree.specs.Rules.{Shape}
use Rattle.tree.specs.Outcome.{stands_by, standing, row_there}
use Rattle.tree.specs.declared.Child.{Child}
use Rattle.tree.specs.declared.Located.TheVariants.{Root, Under}
use Rattle.tree.proofs.TreeLaws.{parent_none}
use Rattle.tree.proofs.LevelLaws.{has_parent}

module _ (level : List ℕ) (r : ℕ) where
  pub stands_row : row_there (standing level r) ≡ r
  unfolding standing stands_by
  stands_row = go (parent level r)
    where
      go : (q : ℕ) → row_there (stands_by r (at level r) q) ≡ r
      go zero = refl
      go (suc p) = refl

  pub stands_root : parent level r ≡ 0 → standing level r ≡ Root r
  unfolding standing stands_by
  stands_root e = ap (stands_by r (at level r)) e

  pub stands_under : (p : ℕ) → parent level r ≡ suc p
      → standing level r ≡ Under (record { row = r; level = at level r; parent = p })
  unfolding standing stands_by
  stands_under p e = ap (stands_by r (at level r)) e

  pub root_stands : (i : ℕ) → standing level r ≡ Root i → (r ≡ i) × (parent level r ≡ 0)
  unfolding standing stands_by
  root_stands i e = go (parent level r) e
    where
      go : (q : ℕ) → stands_by r (at level r) q ≡ Root i → (r ≡ i) × (q ≡ 0)
      go zero h = (cc, refl)
      go (suc p) h = let z : ◌≡◌ {A = ℕ} 0 1 = cc in absurd (omega arith)

  pub under_stands : (c : Child) → standing level r ≡ Under c
      → (r ≡ c.row) × (at level r ≡ c.level) × (parent level r ≡ suc c.parent)
  unfolding standing stands_by
  under_stands c e = go (parent level r) e
    where
      go : (q : ℕ) → stands_by r (at level r) q ≡ Under c
          → (r ≡ c.row) × (at level r ≡ c.level) × (q ≡ suc c.parent)
      go zero h = let z : ◌≡◌ {A = ℕ} 0 1 = cc in absurd (omega arith)
      go (suc p) h = (cc, cc, cc)

-- a row has no parent exactly if its level is 0
pub root_level : {size level : List ℕ} {n : ℕ} → Shape size level n → (r : ℕ) → r < n
    → (parent level r ≡ 0) ↔ (at level r ≡ 0)
root_level {level = level} s r l = (there, parent_none level r)
  where
    there : parent level r ≡ 0 → at level r ≡ 0
    there e = elim (ℕ_discrete (at level r) 0) [
      | yes z ↦ z
      | no z ↦ let p = has_parent s r l (omega arith) in absurd (omega (arith, p.1))
    ]
