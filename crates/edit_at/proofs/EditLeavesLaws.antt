-- Two answers that the contract of an edit allows are equal, and so are the columns that they leave: `leaves_only` for
-- the edits at a row that was found, then `insert_only`, `delete_only`, `rename_only`. Assumes nothing.
use mathlib.Core.Path.{◌≡◌, sym, ◌∙◌}
use mathlib.Core.List.{List}
use Prim.Native.Nat.{ℕ}
use Rattle.tree.specs.Table.{Table}
use Rattle.tree.specs.Outcome.{EditOutcome, insert_outcome, delete_outcome, rename_outcome, Edited}
use Rattle.edit_at.specs.EditLeaves.{EditLeaves}

-- an answer and five columns are those of another call
pub record Same (a : Edited) (k s l c m : List ℕ) (a' : Edited) (k' s' l' c' m' : List ℕ) : Type 0 where
  pub answer : a ≡ a'
  pub key : k ≡ k'
  pub size : s ≡ s'
  pub level : l ≡ l'
  pub kind : c ≡ c'
  pub name : m ≡ m'

pub leaves_only : {o : EditOutcome} {a a' : Edited} {k s l c m k' s' l' c' m' : List ℕ}
    → EditLeaves o a k s l c m → EditLeaves o a' k' s' l' c' m' → Same a k s l c m a' k' s' l' c' m'
leaves_only g h = record {
  answer = g.answers ∙ sym h.answers;
  key = g.key_is ∙ sym h.key_is;
  size = g.size_is ∙ sym h.size_is;
  level = g.level_is ∙ sym h.level_is;
  kind = g.kind_is ∙ sym h.kind_is;
  name = g.name_is ∙ sym h.name_is;
}

module _ {a a' : Edited} {k s l c m k' s' l' c' m' : List ℕ} (t : Table) (x : ℕ) where
  pub insert_only : (p : Table) → EditLeaves (insert_outcome t x p) a k s l c m
      → EditLeaves (insert_outcome t x p) a' k' s' l' c' m'
      → Same a k s l c m a' k' s' l' c' m'
  insert_only p = leaves_only

  pub delete_only : EditLeaves (delete_outcome t x) a k s l c m → EditLeaves (delete_outcome t x) a' k' s' l' c' m'
      → Same a k s l c m a' k' s' l' c' m'
  delete_only = leaves_only

  pub rename_only : (n : ℕ) → EditLeaves (rename_outcome t x n) a k s l c m
      → EditLeaves (rename_outcome t x n) a' k' s' l' c' m'
      → Same a k s l c m a' k' s' l' c' m'
  rename_only n = leaves_only
