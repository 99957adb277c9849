-- The sizes above an edited row, and what changing them asks for. No contract of an entry point cites it. Assumes
-- nothing.
use Rattle.std.specs.Prelude.{ℕ, ◌+◌, ◌-◌, ◌<◌, ◌≤◌, ◌≡◌, Bool, true, ◌||◌, List, eqb}
use Rattle.tree.specs.Table.{most_rows, at}
use Rattle.tree.specs.Tree.{ancestor}
use Rattle.tree.specs.Rules.{Shape}
use Rattle.tree.specs.Edit.{changed}
use Rattle.tree.specs.Outcome.{standing, row_there}
use Rattle.tree.specs.declared.Located.{Located}

-- row i is row r or an ancestor of it
abbrev pub up_from : List ℕ → ℕ → ℕ → Bool
up_from level r i = eqb i r || ancestor level i r

-- sizes with more added and less taken at row r and at each of its ancestors
abbrev pub resized : List ℕ → ℕ → ℕ → ℕ → List ℕ → List ℕ
resized level r more less size = changed (up_from level r) (λ s. s + more - less) size

-- of n rows that make trees, row r and its ancestors may have that many more and less
pub record Resizable (size level : List ℕ) (n r more less : ℕ) : Type 0 where
  pub shape : Shape size level n
  pub in_use : r < n
  pub few : more ≤ most_rows
  pub holds : (i : ℕ) → up_from level r i ≡ true → less ≤ at size i

-- f says where one of n rows stands that make trees
pub record Stands (size level : List ℕ) (n : ℕ) (f : Located) : Type 0 where
  pub shape : Shape size level n
  pub in_use : row_there f < n
  pub there : f ≡ standing level (row_there f)
