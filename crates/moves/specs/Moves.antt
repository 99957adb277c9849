-- What the functions that move one row ask for. No contract of an entry point cites it. Assumes nothing.
use Rattle.std.specs.Prelude.{◌≡◌, true, ℕ, ◌<◌, ◌≤◌, ℤ}
use Rattle.tree.specs.Table.{most_rows}
use Rattle.tree.specs.Carry.{move_ok}

-- refusals 1, 5 and 17 do not apply: a row of the table before the edit
pub record Moves (old first : ℕ) (moved : ℤ) (row : ℕ) : Type 0 where
  pub few : old ≤ most_rows
  pub move : move_ok old first moved ≡ true
  pub inside : row < old

-- the first moved row or a later one, up to the old count
pub record MovesRow (old first : ℕ) (moved : ℤ) (row : ℕ) : Type 0 where
  pub few : old ≤ most_rows
  pub move : move_ok old first moved ≡ true
  pub from : first ≤ row
  pub within : row ≤ old
