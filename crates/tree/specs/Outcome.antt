-- What each public call answers, and what the lent columns hold afterwards: on every input, on refusals too.
-- Assumes nothing.
use Rattle.std.specs.Prelude.{ℕ, zero, suc, cond, Result, Ok, Err, List, ◌++◌, ltb, length, drop}
use Rattle.tree.specs.Table.{Table, at}
use Rattle.tree.specs.Tree.{parent}
use Rattle.tree.specs.Sound.{row_of}
use Rattle.tree.specs.Pairs.{Pair, pairs_of, roles_of, rows_of}
use Rattle.tree.specs.Step.{Ask, step_list}
use Rattle.tree.specs.Kept.{kept_count}
use Rattle.tree.specs.Edit.{inserted, deleted, renamed, insert_done, delete_done, rename_done}
use Rattle.tree.specs.Refusal.{Checked, next, table_check, pair_check, ask_check, room_check}
use Rattle.tree.specs.Refusal.{key_check, insert_check, delete_check, rename_check}
use Rattle.tree.specs.declared.Refusal.{Refusal}
use Rattle.tree.specs.declared.Refusal.TheVariants.{UnknownKey}
use Rattle.tree.specs.declared.Located.{Located}
use Rattle.tree.specs.declared.Located.TheVariants.{Root, Under}
use Rattle.tree.specs.declared.Tally.{Tally}
use Rattle.tree.specs.declared.Done.{Done}

-- ── table check: 1, 2 ──
-- what checking a table answers
unfoldable pub check_outcome : Table → Checked
check_outcome t = table_check t

-- ── find: 1, 2, 9; RULES 02, E3 ──
-- what finding a key answers: where its row stands, or a refusal
abbrev pub Found : Type 0
Found = Result Located Refusal

-- row r of the level l, by one more than its parent's row: a root where it has no parent
unfoldable pub stands_by : ℕ → ℕ → ℕ → Located
stands_by r l zero = Root r
stands_by r l (suc p) = Under (record { row = r; level = l; parent = p })

-- where row r stands, by the levels
unfoldable pub standing : List ℕ → ℕ → Located
standing level r = stands_by r (at level r) (parent level r)

-- the row that stands there
abbrev pub row_there : Located → ℕ
row_there (Root r) = r
row_there (Under c) = c.row

-- where the row of a key stands, among the first n rows, or 9
unfoldable pub located : List ℕ → List ℕ → ℕ → ℕ → Found
located key level n k = cond (ltb (row_of key n k) n) (Ok (standing level (row_of key n k))) (Err UnknownKey)

-- what finding a key answers: the row that has it, its level and its parent's row
unfoldable pub find_outcome : Table → ℕ → Found
find_outcome t k = next (table_check t) (located t.key t.level t.count k)

-- the answer that row r of t is found
abbrev pub found_at : Table → ℕ → Found
found_at t r = Ok (standing t.level r)

-- ── step: 1 to 8 ──
-- what a step answers: how many results and which kept count, or a refusal
abbrev pub Stepped : Type 0
Stepped = Result Tally Refusal

-- what a step answers, and the result columns as it leaves them
pub record StepOutcome : Type 0 where
  pub answer : Stepped
  pub role : List ℕ
  pub row : List ℕ

-- a result column with these results in front; places beyond stay
unfoldable pub overwritten : List ℕ → List ℕ → List ℕ
overwritten xs out = xs ++ drop (length xs) out

-- the step that was checked: these results and this kept count, or the refusal and the result columns as they were
unfoldable pub step_if : Checked → List Pair → ℕ → List ℕ → List ℕ → StepOutcome
step_if (Err why) results kept outRole outRow = record { answer = Err why; role = outRole; row = outRow }
step_if (Ok u) results kept outRole outRow = record {
  answer = Ok (record { listed = length results; kept = kept });
  role = overwritten (roles_of results) outRole;
  row = overwritten (rows_of results) outRow;
}

-- the checks of a step, in their order
unfoldable pub step_check : Table → List ℕ → List ℕ → Ask → List ℕ → List ℕ → Checked
step_check t role row a outRole outRow =
    next (table_check t) (next (pair_check role row t.count) (next (ask_check a)
    (room_check (length (step_list t a (pairs_of role row))) outRole outRow)))

-- what a step answers and leaves: the pairs that it lists, and the kept count of the pairs that it was given
unfoldable pub step_outcome : Table → List ℕ → List ℕ → Ask → List ℕ → List ℕ → StepOutcome
step_outcome t role row a outRole outRow =
    step_if (step_check t role row a outRole outRow) (step_list t a (pairs_of role row))
    (kept_count a.axis t.level (pairs_of role row)) outRole outRow

-- ── edits: 1, 2, 9, then their own ──
-- what an edit answers: what was done, or a refusal
abbrev pub Edited : Type 0
Edited = Result Done Refusal

-- what an edit answers, and the table as it leaves it
pub record EditOutcome : Type 0 where
  pub answer : Edited
  pub table : Table

-- the edit that was checked: its answer and table, or the refusal and the table as it was
unfoldable pub edit_if : Checked → Done → Table → Table → EditOutcome
edit_if (Err why) d t' t = record { answer = Err why; table = t }
edit_if (Ok u) d t' t = record { answer = Ok d; table = t' }

-- 1, 2 and 9, then the edit's own check of the row found
unfoldable pub edit_check : Table → ℕ → Checked → Checked
edit_check t k own = next (table_check t) (next (key_check t k) own)

-- what inserting a piece under the row of a key answers and leaves
unfoldable pub insert_outcome : Table → ℕ → Table → EditOutcome
insert_outcome t k p =
    let r : ℕ = row_of t.key t.count k in
    edit_if (edit_check t k (insert_check t r p)) (insert_done t r p) (inserted t r p) t

-- what deleting the row of a key, and its descendants, answers and leaves
unfoldable pub delete_outcome : Table → ℕ → EditOutcome
delete_outcome t k =
    let r : ℕ = row_of t.key t.count k in
    edit_if (edit_check t k (delete_check t r)) (delete_done t r) (deleted t r) t

-- what giving the row of a key a new name answers and leaves
unfoldable pub rename_outcome : Table → ℕ → ℕ → EditOutcome
rename_outcome t k m =
    let r : ℕ = row_of t.key t.count k in
    edit_if (edit_check t k (rename_check t r m)) (rename_done t) (renamed t r m) t
