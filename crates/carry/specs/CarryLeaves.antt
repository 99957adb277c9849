-- What carrying leaves: its answer and both result columns are those of the outcome that RULES 02 defines.
-- Assumes nothing.
use Rattle.std.specs.Prelude.{◌≡◌, List, ℕ}
use Rattle.tree.specs.Carry.{CarryOutcome, Carried}

-- the answer and both result columns are those of the outcome
pub record CarryLeaves (o : CarryOutcome) (answer : Carried) (role row : List ℕ) : Type 0 where
  pub answers : answer ≡ o.answer
  pub role_is : role ≡ o.role
  pub row_is : row ≡ o.row
