-- What a list of changes leaves: the promise of the public call. The answer and all five columns are those of an
-- outcome, on every input, on refusals too. That two answers allowed by it are equal is `batch_only`
-- (proofs/BatchLeavesLaws.antt). Assumes nothing.
use Rattle.std.specs.Prelude.{ℕ, ◌≡◌, List}
use Rattle.tree.specs.Batch.{BatchOutcome}
use Rattle.tree.specs.declared.Batched.{Batched}

-- the answer, and the columns at exit, are those of the outcome o
pub record BatchLeaves (o : BatchOutcome) (answer : Batched) (key size level kind name : List ℕ) : Type 0 where
  pub answers : answer ≡ o.answer
  pub key_is : key ≡ o.table.key
  pub size_is : size ≡ o.table.size
  pub level_is : level ≡ o.table.level
  pub kind_is : kind ≡ o.table.kind
  pub name_is : name ≡ o.table.name
