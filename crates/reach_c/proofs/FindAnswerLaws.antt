-- The parent that finding answers is a row of a table, so it fits C's signed number: `parent_small`. Assumes nothing.
use mathlib.Core.Path.{◌≡◌, refl}
use Prim.Native.Nat.{ℕ, ◌≤◌}
use native.Mathlib.Omega.{arith}
use Rattle.tree.specs.Table.{Table}
use Rattle.tree.specs.Outcome.{find_outcome, Found}
use Rattle.tree.specs.declared.Located.TheVariants.{Root, Under}
use Rattle.tree.proofs.FindLaws.{find_under, find_parent}
use Rattle.answer.specs.Found.{parent_found}
use Rattle.std.specs.Prelude.{Ok, Err}

pub parent_small : (t : Table) (k : ℕ) → parent_found (find_outcome t k) ≤ 4096
parent_small t k = go (find_outcome t k) refl
  where
    go : (f : Found) → find_outcome t k ≡ f → parent_found f ≤ 4096
    go (Ok (Root r)) e = omega arith
    go (Ok (Under c)) e = omega (arith, (find_parent t k c e).0, ((find_under t k c).0 e).0.in_use.few)
    go (Err why) e = omega arith
