-- What a step leaves: its answer and both result columns are those of the outcome that RULES 01 defines.
-- Assumes nothing.
use Rattle.std.specs.Prelude.{◌≡◌, List, ℕ}
use Rattle.tree.specs.Outcome.{StepOutcome, Stepped}

-- the answer and both result columns are those of the outcome
pub record StepLeaves (o : StepOutcome) (answer : Stepped) (role row : List ℕ) : Type 0 where
  pub answers : answer ≡ o.answer
  pub role_is : role ≡ o.role
  pub row_is : row ≡ o.row
