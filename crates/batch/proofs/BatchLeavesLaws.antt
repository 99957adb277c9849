-- Two answers that the contract of a list of changes allows are equal, and so are the columns that they leave:
-- `batch_only`. Assumes nothing.
use mathlib.Core.Path.{◌≡◌, sym, ◌∙◌}
use mathlib.Core.List.{List}
use Prim.Native.Nat.{ℕ}
use Rattle.tree.specs.Table.{Table}
use Rattle.tree.specs.Batch.{batch_outcome}
use Rattle.tree.specs.declared.Batched.{Batched}
use Rattle.batch.specs.BatchLeaves.{BatchLeaves}

pub batch_only : (t : Table) (code key name : List ℕ)
    → {a a' : Batched} {k s l c m k' s' l' c' m' : List ℕ}
    → BatchLeaves (batch_outcome t code key name) a k s l c m
    → BatchLeaves (batch_outcome t code key name) a' k' s' l' c' m'
    → (a ≡ a') × (k ≡ k') × (s ≡ s') × (l ≡ l') × (c ≡ c') × (m ≡ m')
batch_only t code key name g h = (
  g.answers ∙ sym h.answers,
  g.key_is ∙ sym h.key_is,
  g.size_is ∙ sym h.size_is,
  g.level_is ∙ sym h.level_is,
  g.kind_is ∙ sym h.kind_is,
  g.name_is ∙ sym h.name_is,
)
