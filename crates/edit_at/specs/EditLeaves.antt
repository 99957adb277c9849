-- What an edit leaves: the promise of the three public edits. The answer and all five columns are those of an
-- outcome, on every input, on refusals too. That two answers allowed by it are equal is `insert_only`, `delete_only`
-- and `rename_only` (proofs/EditLeavesLaws.antt). Assumes nothing.
use Rattle.std.specs.Prelude.{ℕ, ◌≡◌, List}
use Rattle.tree.specs.Outcome.{EditOutcome, Edited}

-- the answer, and the columns at exit, are those of the outcome o
pub record EditLeaves (o : EditOutcome) (answer : Edited) (key size level kind name : List ℕ) : Type 0 where
  pub answers : answer ≡ o.answer
  pub key_is : key ≡ o.table.key
  pub size_is : size ≡ o.table.size
  pub level_is : level ≡ o.table.level
  pub kind_is : kind ≡ o.table.kind
  pub name_is : name ≡ o.table.name
