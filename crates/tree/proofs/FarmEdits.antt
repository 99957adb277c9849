-- More edits of the small farm: two rows into the middle, up to the last spare row; one row at the very end; five rows
-- out. What may be renamed and what may have children; the level that is just too deep; the least row that is not
-- sound; each column the shortest. One table of calls with what each gives, `cases`, and one theorem, `farm_edits`.
-- The limits are 01's: `limits`. Assumes nothing.
use mathlib.Core.Path.{◌≡◌, refl}
use mathlib.Core.List.{List, [], ◌∷◌, map}
use lib.IntN.{pos, negsuc}
use Rattle.tree.specs.Search.{least, some_below, nearest}
use Rattle.tree.specs.Table.{most_rows, table_of, shortest, count_ok}
use Rattle.tree.specs.Pairs.{most_pairs}
use Rattle.tree.specs.Sound.{level_ok, run_of, size_of, size_ok, kind_ok, has_name, name_ok}
use Rattle.tree.specs.Sound.{row_of, key_ok, beside_key_ok, row_ok, first_bad}
use Rattle.tree.specs.Tree.{parent, above, ancestor, other_root}
use Rattle.tree.specs.Edit.{opened, closed, changed, gap_of, inserted, deleted, renamed, minus}
use Rattle.tree.specs.Edit.{insert_done, delete_done, rename_done}
use Rattle.tree.specs.Refusal.{given, given_at, next, table_check, key_check}
use Rattle.tree.specs.Refusal.{bad_piece, insert_check, delete_check, rename_check}
use Rattle.tree.specs.Outcome.{check_outcome, edit_if, edit_check, insert_outcome, delete_outcome, rename_outcome}
use Rattle.tree.proofs.FarmCalls.{farm, leaf, leaf_of, twig, ladder, mixed, two_bad, run, Case, makes, keeps}
use Rattle.tree.proofs.FarmCalls.Call.{check, insert, delete, rename}
use Rattle.tree.proofs.FarmCalls.Gives.{checked}
use Rattle.std.specs.Prelude.{Ok, Err}

-- the calls, with what each gives
abbrev pub cases : List Case
cases =
    -- two rows under row 2: they are rows 4 and 5, six rows move, and no spare row is left; the piece's is not read
    record {
      call = insert farm 21 twig;
      gives = makes 12 4 (pos 2)
          (table_of
          (10 ∷ 20 ∷ 21 ∷ 22 ∷ 50 ∷ 51 ∷ 23 ∷ 24 ∷ 30 ∷ 31 ∷ 32 ∷ 40 ∷ [])
          (11 ∷ 6 ∷ 3 ∷ 0 ∷ 1 ∷ 0 ∷ 1 ∷ 0 ∷ 2 ∷ 1 ∷ 0 ∷ 0 ∷ [])
          (0 ∷ 1 ∷ 2 ∷ 3 ∷ 3 ∷ 4 ∷ 2 ∷ 3 ∷ 1 ∷ 2 ∷ 3 ∷ 1 ∷ [])
          (1 ∷ 1 ∷ 1 ∷ 1 ∷ 1 ∷ 2 ∷ 1 ∷ 1 ∷ 1 ∷ 1 ∷ 1 ∷ 3 ∷ [])
          (1 ∷ 2 ∷ 3 ∷ 4 ∷ 4 ∷ 0 ∷ 3 ∷ 4 ∷ 2 ∷ 3 ∷ 4 ∷ 0 ∷ [])
          12);
    } ∷
    -- one row under row 0: nothing moves, and the first moved row is the old count
    record {
      call = insert farm 10 leaf;
      gives = makes 11 10 (pos 1)
          (table_of
          (10 ∷ 20 ∷ 21 ∷ 22 ∷ 23 ∷ 24 ∷ 30 ∷ 31 ∷ 32 ∷ 40 ∷ 50 ∷ 92 ∷ [])
          (10 ∷ 4 ∷ 1 ∷ 0 ∷ 1 ∷ 0 ∷ 2 ∷ 1 ∷ 0 ∷ 0 ∷ 0 ∷ 94 ∷ [])
          (0 ∷ 1 ∷ 2 ∷ 3 ∷ 2 ∷ 3 ∷ 1 ∷ 2 ∷ 3 ∷ 1 ∷ 1 ∷ 96 ∷ [])
          (1 ∷ 1 ∷ 1 ∷ 1 ∷ 1 ∷ 1 ∷ 1 ∷ 1 ∷ 1 ∷ 3 ∷ 1 ∷ 98 ∷ [])
          (1 ∷ 2 ∷ 3 ∷ 4 ∷ 3 ∷ 4 ∷ 2 ∷ 3 ∷ 4 ∷ 0 ∷ 4 ∷ 90 ∷ [])
          11);
    } ∷
    -- row 1 and its four descendants go: rows 6 to 9 close up, rows 5 to 9 are zero
    record {
      call = delete farm 20;
      gives = makes 5 6 (negsuc 4)
          (table_of
          (10 ∷ 30 ∷ 31 ∷ 32 ∷ 40 ∷ 0 ∷ 0 ∷ 0 ∷ 0 ∷ 0 ∷ 91 ∷ 92 ∷ [])
          (4 ∷ 2 ∷ 1 ∷ 0 ∷ 0 ∷ 0 ∷ 0 ∷ 0 ∷ 0 ∷ 0 ∷ 93 ∷ 94 ∷ [])
          (0 ∷ 1 ∷ 2 ∷ 3 ∷ 1 ∷ 0 ∷ 0 ∷ 0 ∷ 0 ∷ 0 ∷ 95 ∷ 96 ∷ [])
          (1 ∷ 1 ∷ 1 ∷ 1 ∷ 3 ∷ 0 ∷ 0 ∷ 0 ∷ 0 ∷ 0 ∷ 97 ∷ 98 ∷ [])
          (1 ∷ 2 ∷ 3 ∷ 4 ∷ 0 ∷ 0 ∷ 0 ∷ 0 ∷ 0 ∷ 0 ∷ 99 ∷ 90 ∷ [])
          5);
    } ∷
    -- a processing instruction may be renamed; a document, a text and a comment may not
    record {
      call = rename mixed 4 7;
      gives = makes 9 9 (pos 0)
          (table_of mixed.key mixed.size mixed.level mixed.kind
          (0 ∷ 4 ∷ 0 ∷ 7 ∷ 9 ∷ 9 ∷ 0 ∷ 9 ∷ 4 ∷ []) 9);
    } ∷
    record { call = rename mixed 1 7; gives = keeps 16 0 mixed } ∷
    record { call = rename mixed 3 7; gives = keeps 16 2 mixed } ∷
    record { call = rename mixed 7 7; gives = keeps 16 6 mixed } ∷
    -- a text, a processing instruction and a comment have no children; a document may, where there is room
    record { call = insert mixed 3 (leaf_of 50); gives = keeps 11 2 mixed } ∷
    record { call = insert mixed 4 (leaf_of 50); gives = keeps 11 3 mixed } ∷
    record { call = insert mixed 7 (leaf_of 50); gives = keeps 11 6 mixed } ∷
    record { call = insert mixed 1 (leaf_of 50); gives = keeps 14 0 mixed } ∷
    -- a piece whose second row alone is too deep; its first row would have been level 63, which is not
    record {
      call = insert (ladder 63) 63 (table_of (98 ∷ 99 ∷ []) (1 ∷ 0 ∷ []) (0 ∷ 1 ∷ []) (1 ∷ 1 ∷ []) (4 ∷ 4 ∷ []) 2);
      gives = keeps 12 0 (ladder 63);
    } ∷
    record { call = insert (ladder 63) 63 (leaf_of 99); gives = keeps 14 0 (ladder 63) } ∷
    -- a table with two rows that are not sound: the lesser
    record { call = check two_bad; gives = checked (Err (2, 1)) } ∷
    -- two rows, where each column in turn has but one
    record {
      call = check (table_of (1 ∷ []) (1 ∷ 0 ∷ []) (0 ∷ 1 ∷ []) (1 ∷ 1 ∷ []) (4 ∷ 4 ∷ []) 2);
      gives = checked (Err (1, 0));
    } ∷
    record {
      call = check (table_of (1 ∷ 2 ∷ []) (1 ∷ []) (0 ∷ 1 ∷ []) (1 ∷ 1 ∷ []) (4 ∷ 4 ∷ []) 2);
      gives = checked (Err (1, 0));
    } ∷
    record {
      call = check (table_of (1 ∷ 2 ∷ []) (1 ∷ 0 ∷ []) (0 ∷ []) (1 ∷ 1 ∷ []) (4 ∷ 4 ∷ []) 2);
      gives = checked (Err (1, 0));
    } ∷
    record {
      call = check (table_of (1 ∷ 2 ∷ []) (1 ∷ 0 ∷ []) (0 ∷ 1 ∷ []) (1 ∷ []) (4 ∷ 4 ∷ []) 2);
      gives = checked (Err (1, 0));
    } ∷
    record {
      call = check (table_of (1 ∷ 2 ∷ []) (1 ∷ 0 ∷ []) (0 ∷ 1 ∷ []) (1 ∷ 1 ∷ []) (4 ∷ []) 2);
      gives = checked (Err (1, 0));
    } ∷
    record {
      call = check (table_of (1 ∷ 2 ∷ []) (1 ∷ 0 ∷ []) (0 ∷ 1 ∷ []) (1 ∷ 1 ∷ []) (4 ∷ 4 ∷ []) 2);
      gives = checked (Ok tt);
    } ∷
    []

-- each call gives what its case says
pub farm_edits : map (λ c. run c.call) cases ≡ map (λ c. c.gives) cases
unfolding check_outcome edit_if edit_check insert_outcome delete_outcome rename_outcome given given_at next
    table_check key_check bad_piece insert_check delete_check rename_check opened closed changed gap_of inserted
    deleted renamed minus insert_done delete_done rename_done parent above ancestor other_root level_ok run_of size_of
    size_ok kind_ok has_name name_ok row_of key_ok beside_key_ok row_ok first_bad shortest count_ok least nearest
    some_below
farm_edits = refl

-- 1 to 4,096 rows, 0 to 4,096 pairs
pub limits : (most_rows ≡ 4096) × (most_pairs ≡ 4096)
limits = (refl, refl)
