-- What the check of a table and the search for a key established. No contract of an entry point cites it. Assumes
-- nothing.
use Rattle.std.specs.Prelude.{◌≡◌, ℕ, ◌<◌}
use Rattle.tree.specs.Table.{Table}
use Rattle.tree.specs.Rules.{Sound}
use Rattle.tree.specs.Outcome.{standing, row_there}
use Rattle.tree.specs.declared.Located.{Located}

-- the table is sound, and row r is in use
pub record RowKnown (t : Table) (r : ℕ) : Type 0 where
  pub sound : Sound t
  pub in_use : r < t.count

-- the table is sound, and f says where one of its rows in use stands
pub record RowFound (t : Table) (f : Located) : Type 0 where
  pub known : RowKnown t (row_there f)
  pub there : f ≡ standing t.level (row_there f)
