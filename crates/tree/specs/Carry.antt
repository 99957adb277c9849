-- Grants that move with their rows: RULES 02, E1, and E2, by which the first moved row may come to row 0. A list of
-- pairs is carried over an edit by the old count and by what the edit answered, its first moved row and its move. For
-- edits that the library accepted each pair keeps its key: carry/proofs/GrantLaws.antt. Assumes nothing.
use Rattle.std.specs.Prelude.{ℕ, Bool, cond, not, Result, Ok, Err, ◌&&◌, List, [], ◌∷◌, ltb, leb, ℤ, pos, nat_abs}
use Rattle.std.specs.Prelude.{◌+ℤ◌, length}
use Rattle.std.specs.Int.Signed.{le_z}
use Rattle.tree.specs.Table.{most_rows}
use Rattle.tree.specs.Pairs.{Pair, pair, pairs_of, roles_of, rows_of}
use Rattle.tree.specs.Refusal.{Checked, given, next, pair_check, room_check}
use Rattle.tree.specs.Outcome.{overwritten}
use Rattle.tree.specs.declared.Refusal.{Refusal}
use Rattle.tree.specs.declared.Refusal.TheVariants.{BadCount, BadMove}

-- row w in the new numbering: at or past the first moved row rows move by the signed move, the others stay
abbrev pub row_after : ℕ → ℤ → ℕ → ℤ
row_after first moved w = cond (ltb w first) (pos w) (pos w +ℤ moved)

-- row w was deleted: on a deletion the rows directly before the first moved row go, as many as were removed
unfoldable pub was_deleted : ℕ → ℤ → ℕ → Bool
was_deleted first moved w = le_z (pos first +ℤ moved) (pos w) && ltb w first

-- these pairs without those whose row goes, each with its row's new number
unfoldable pub carried_by : (ℕ → Bool) → (ℕ → ℕ) → List Pair → List Pair
carried_by goes to [] = []
carried_by goes to (p ∷ ps) =
    cond (goes p.row) (carried_by goes to ps) (pair p.role (to p.row) ∷ carried_by goes to ps)

-- the new list; where the call is accepted no new row is negative: `new_row` (proofs/RowMoveLaws.antt)
unfoldable pub carried : ℕ → ℤ → List Pair → List Pair
carried first moved ps = carried_by (was_deleted first moved) (λ w. nat_abs (row_after first moved w)) ps

-- the old count is 1 to `most_rows`
unfoldable pub old_count_ok : ℕ → Bool
old_count_ok old = leb 1 old && leb old most_rows

-- the first moved row is 1 to the old count and not below 0 once the move is added, and the new count is 1 to
-- `most_rows`
unfoldable pub move_ok : ℕ → ℕ → ℤ → Bool
move_ok old first moved =
    leb 1 first && leb first old && le_z (pos 0) (pos first +ℤ moved)
    && le_z (pos 1) (pos old +ℤ moved) && le_z (pos old +ℤ moved) (pos most_rows)

-- what carrying answers: how many pairs were written, or a refusal
abbrev pub Carried : Type 0
Carried = Result ℕ Refusal

-- what carrying answers, and the result columns as it leaves them
pub record CarryOutcome : Type 0 where
  pub answer : Carried
  pub role : List ℕ
  pub row : List ℕ

-- the list that was checked: its length and it in front, or the refusal and the result columns as they were
unfoldable pub carry_if : Checked → List Pair → List ℕ → List ℕ → CarryOutcome
carry_if (Err why) new outRole outRow = record { answer = Err why; role = outRole; row = outRow }
carry_if (Ok u) new outRole outRow = record {
  answer = Ok (length new);
  role = overwritten (roles_of new) outRole;
  row = overwritten (rows_of new) outRow;
}

-- refusal 1, then 3 to 5, then 17, then 8
unfoldable pub carry_check : List ℕ → List ℕ → ℕ → ℕ → ℤ → List ℕ → List ℕ → Checked
carry_check role row old first moved outRole outRow =
    next (given (not (old_count_ok old)) BadCount) (next (pair_check role row old)
    (next (given (not (move_ok old first moved)) BadMove)
    (room_check (length (carried first moved (pairs_of role row))) outRole outRow)))

-- what carrying pairs over an edit answers and leaves
unfoldable pub carry_outcome : List ℕ → List ℕ → ℕ → ℕ → ℤ → List ℕ → List ℕ → CarryOutcome
carry_outcome role row old first moved outRole outRow =
    carry_if (carry_check role row old first moved outRole outRow) (carried first moved (pairs_of role row))
    outRole outRow
