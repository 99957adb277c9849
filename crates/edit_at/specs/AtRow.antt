-- Edits at a row that was found in a table that was checked: what the inner functions answer and what they ask for.
-- That the outcome of an edit by key is that of the edit at the key's row is in edit's KeyOutcomeLaws. Assumes nothing.
use Rattle.std.specs.Prelude.{ℕ, ◌+◌, ◌-◌, ◌≡◌, Ok}
use Rattle.tree.specs.Table.{Table}
use Rattle.tree.specs.Edit.{closed, inserted, deleted, renamed, minus, insert_done, delete_done, rename_done}
use Rattle.tree.specs.Refusal.{insert_check, delete_check, rename_check, passed}
use Rattle.tree.specs.Outcome.{row_there, EditOutcome, edit_if}
use Rattle.tree.specs.declared.Located.{Located}
use Rattle.table.specs.RowFound.{RowFound}

-- the row was found, and the piece p fits under it
pub record PieceChecked (t : Table) (f : Located) (p : Table) : Type 0 where
  pub found : RowFound t f
  pub fits : insert_check t (row_there f) p ≡ passed

-- 10 to 14, or the piece p under row r
abbrev pub insert_at : Table → ℕ → Table → EditOutcome
insert_at t r p = edit_if (insert_check t r p) (insert_done t r p) (inserted t r p) t

-- by rows gone from row r on: later rows closed up in all columns, and no size changed
abbrev pub closed_up : Table → ℕ → ℕ → EditOutcome
closed_up t r by = record {
  answer = Ok (record { count = t.count - by; first = r + by; moved = minus by });
  table = record {
    key = closed r t.count by t.key;
    size = closed r t.count by t.size;
    level = closed r t.count by t.level;
    kind = closed r t.count by t.kind;
    name = closed r t.count by t.name;
    count = t.count - by;
  };
}

-- 15, or row r and its descendants gone
abbrev pub delete_at : Table → ℕ → EditOutcome
delete_at t r = edit_if (delete_check t r) (delete_done t r) (deleted t r) t

-- 16, or row r with the name m
abbrev pub rename_at : Table → ℕ → ℕ → EditOutcome
rename_at t r m = edit_if (rename_check t r m) (rename_done t) (renamed t r m) t
