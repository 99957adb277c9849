-- Two answers that a contract of this crate allows are equal: `check_only`, `find_only`, `locate_only`. Assumes
-- nothing.
use mathlib.Core.Path.{◌≡◌, sym, ◌∙◌}
use mathlib.Core.List.{List}
use Prim.Native.Nat.{ℕ}
use Rattle.tree.specs.Table.{Table}
use Rattle.tree.specs.Outcome.{check_outcome, find_outcome, located, Found}
use Rattle.tree.specs.Refusal.{Checked}

pub check_only : (t : Table) {x y : Checked} → x ≡ check_outcome t → y ≡ check_outcome t → x ≡ y
check_only t p q = p ∙ sym q

pub find_only : (t : Table) (k : ℕ) {x y : Found} → x ≡ find_outcome t k → y ≡ find_outcome t k → x ≡ y
find_only t k p q = p ∙ sym q

pub locate_only : (key level : List ℕ) (n k : ℕ) {x y : Found} → x ≡ located key level n k → y ≡ located key level n k
    → x ≡ y
locate_only key level n k p q = p ∙ sym q
