-- The library's answers as one struct for C: include/reach.h, reach_answer. Refusal 0 is acceptance; what an answer
-- does not use is 0. What finding answers has a struct of its own: Found. Assumes nothing.
use Rattle.std.specs.Prelude.{◌≡◌, List, ℕ, ℤ, pos, Ok, Err}
use Rattle.tree.specs.Outcome.{StepOutcome, EditOutcome, Stepped, Edited}
use Rattle.tree.specs.Carry.{CarryOutcome, Carried}
use Rattle.tree.specs.Batch.{BatchOutcome}
use Rattle.tree.specs.declared.Batched.{Batched}
use Rattle.answer.specs.declared.Answer.{Answer}
use Rattle.tree.specs.Refusal.{Checked}
use Rattle.tree.specs.Number.{number, place}
use Rattle.tree.specs.declared.Refusal.{Refusal}

-- accepted, with two numbers and a move
abbrev pub accepted : ℕ → ℕ → ℤ → Answer
accepted a b m = record { refusal = 0; place = 0; first = a; second = b; moved = m }

-- refused, with the number and the place
abbrev pub refused : Refusal → Answer
refused why = record { refusal = number why; place = place why; first = 0; second = 0; moved = pos 0 }

-- an accepted check has nothing to tell
unfoldable pub check_answer : Checked → Answer
check_answer (Ok u) = accepted 0 0 (pos 0)
check_answer (Err why) = refused why

-- the number of results comes first, then the kept count
unfoldable pub step_answer : Stepped → Answer
step_answer (Ok t) = accepted t.listed t.kept (pos 0)
step_answer (Err why) = refused why

-- a step's answer as C's struct, and both result columns, are those of the outcome
pub record StepAnswers (o : StepOutcome) (answer : Answer) (role row : List ℕ) : Type 0 where
  pub answers : answer ≡ step_answer o.answer
  pub role_is : role ≡ o.role
  pub row_is : row ≡ o.row

-- the new count comes first, then the first moved row, and the move
unfoldable pub edit_answer : Edited → Answer
edit_answer (Ok d) = accepted d.count d.first d.moved
edit_answer (Err why) = refused why

-- an edit's answer as C's struct, and all five columns, are those of the outcome
pub record EditAnswers (o : EditOutcome) (answer : Answer) (key size level kind name : List ℕ) : Type 0 where
  pub answers : answer ≡ edit_answer o.answer
  pub key_is : key ≡ o.table.key
  pub size_is : size ≡ o.table.size
  pub level_is : level ≡ o.table.level
  pub kind_is : kind ≡ o.table.kind
  pub name_is : name ≡ o.table.name

-- the number of pairs comes first
unfoldable pub carry_answer : Carried → Answer
carry_answer (Ok n) = accepted n 0 (pos 0)
carry_answer (Err why) = refused why

-- the answer of carrying as C's struct, and both result columns, are those of the outcome
pub record CarryAnswers (o : CarryOutcome) (answer : Answer) (role row : List ℕ) : Type 0 where
  pub answers : answer ≡ carry_answer o.answer
  pub role_is : role ≡ o.role
  pub row_is : row ≡ o.row

-- the number of items done comes first, then the count, on a refusal too
unfoldable pub end_answer : Checked → ℕ → ℕ → Answer
end_answer (Ok u) done count = accepted done count (pos 0)
end_answer (Err why) done count =
    record { refusal = number why; place = place why; first = done; second = count; moved = pos 0 }

abbrev pub batch_answer : Batched → Answer
batch_answer b = end_answer b.end b.done b.count

-- the answer of a list of changes as C's struct, and all five columns, are those of the outcome
pub record BatchAnswers (o : BatchOutcome) (answer : Answer) (key size level kind name : List ℕ) : Type 0 where
  pub answers : answer ≡ batch_answer o.answer
  pub key_is : key ≡ o.table.key
  pub size_is : size ≡ o.table.size
  pub level_is : level ≡ o.table.level
  pub kind_is : kind ≡ o.table.kind
  pub name_is : name ≡ o.table.name
