-- Lists of deletions and renames on the small farm and on three farms: RULES 02, E4. One table of calls, with what each
-- gives and the table that it leaves, `cases`, and one theorem, `farm_batch`. Assumes nothing.
use Prim.Native.Nat.{ℕ}
use mathlib.Core.Path.{◌≡◌, refl}
use mathlib.Core.List.{List, [], ◌∷◌, map}
use lib.ListN.{replicate}
use Rattle.tree.specs.Search.{least, some_below, nearest}
use Rattle.tree.specs.Table.{Table, table_of, shortest, count_ok}
use Rattle.tree.specs.Sound.{level_ok, run_of, size_of, size_ok, kind_ok, has_name, name_ok}
use Rattle.tree.specs.Sound.{row_of, key_ok, beside_key_ok, row_ok, first_bad}
use Rattle.tree.specs.Tree.{parent, above, ancestor, other_root}
use Rattle.tree.specs.Edit.{closed, changed, deleted, renamed}
use Rattle.tree.specs.Number.{told}
use Rattle.tree.specs.Refusal.{given, next, table_check, key_check, delete_check, rename_check}
use Rattle.tree.specs.Outcome.{edit_if, edit_check, delete_outcome, rename_outcome}
use Rattle.tree.specs.Batch.{items_of, item_outcome, BatchOutcome, unless_refused, one_by_one, list_check, batch_check}
use Rattle.tree.specs.Batch.{batch_if, batch_outcome}
use Rattle.tree.proofs.FarmCalls.{farm, leaf, mixed, counted, two_bad}
use Rattle.tree.proofs.Farms.{farms}
use Rattle.std.specs.Prelude.{Result, Ok, Err}

-- ── calls, and what they give ──
-- a table, and the list's columns: codes, 1 to delete and 2 to rename, keys and names
pub record Call : Type 0 where
  pub table : Table
  pub code : List ℕ
  pub key : List ℕ
  pub name : List ℕ

-- what it gives: how many items were done, the count, what ended the list, a refusal by number and place; the table
pub record Gives : Type 0 where
  pub done : ℕ
  pub count : ℕ
  pub end : Result Unit (ℕ × ℕ)
  pub table : Table

abbrev pub batch_gives : BatchOutcome → Gives
batch_gives o = record { done = o.answer.done; count = o.answer.count; end = told o.answer.end; table = o.table }

abbrev pub run : Call → Gives
run c = batch_gives (batch_outcome c.table c.code c.key c.name)

pub record Case : Type 0 where
  pub call : Call
  pub gives : Gives

-- these items on a table
abbrev pub changes : Table → List ℕ → List ℕ → List ℕ → Call
changes t code key name = record { table = t; code = code; key = key; name = name }

-- all of so many items done: the count, and the table
abbrev pub finishes : ℕ → ℕ → Table → Gives
finishes done count t = record { done = done; count = count; end = Ok tt; table = t }

-- so many items done, then a refusal with its number and place: the count, and the table
abbrev pub stops : ℕ → ℕ → ℕ → ℕ → Table → Gives
stops number place done count t = record { done = done; count = count; end = Err (number, place); table = t }

-- a table with this column of names
abbrev pub named : Table → List ℕ → Table
named t name = table_of t.key t.size t.level t.kind name t.count

-- the farm after a deletion of the blade 21, which takes row 3 with it: rows 4 to 9 are rows 2 to 7
abbrev pub without21 : Table
without21 =
    table_of
    (10 ∷ 20 ∷ 23 ∷ 24 ∷ 30 ∷ 31 ∷ 32 ∷ 40 ∷ 0 ∷ 0 ∷ 91 ∷ 92 ∷ [])
    (7 ∷ 2 ∷ 1 ∷ 0 ∷ 2 ∷ 1 ∷ 0 ∷ 0 ∷ 0 ∷ 0 ∷ 93 ∷ 94 ∷ [])
    (0 ∷ 1 ∷ 2 ∷ 3 ∷ 1 ∷ 2 ∷ 3 ∷ 1 ∷ 0 ∷ 0 ∷ 95 ∷ 96 ∷ [])
    (1 ∷ 1 ∷ 1 ∷ 1 ∷ 1 ∷ 1 ∷ 1 ∷ 3 ∷ 0 ∷ 0 ∷ 97 ∷ 98 ∷ [])
    (1 ∷ 2 ∷ 3 ∷ 4 ∷ 2 ∷ 3 ∷ 4 ∷ 0 ∷ 0 ∷ 0 ∷ 99 ∷ 90 ∷ [])
    8

-- the farm after turbine 30 got the name 6
abbrev pub renamed30 : Table
renamed30 = named farm (1 ∷ 2 ∷ 3 ∷ 4 ∷ 3 ∷ 4 ∷ 6 ∷ 3 ∷ 4 ∷ 0 ∷ 99 ∷ 90 ∷ [])

-- the calls, with what each gives
abbrev pub cases : List Case
cases =
    -- ── accepted lists ──
    -- a weekend: delete 21, rename 30, delete 40. Three rows are freed and zero; the spare rows stay as they were
    record {
      call = changes farm (1 ∷ 2 ∷ 1 ∷ []) (21 ∷ 30 ∷ 40 ∷ []) (0 ∷ 6 ∷ 0 ∷ []);
      gives = finishes 3 7
          (table_of
          (10 ∷ 20 ∷ 23 ∷ 24 ∷ 30 ∷ 31 ∷ 32 ∷ 0 ∷ 0 ∷ 0 ∷ 91 ∷ 92 ∷ [])
          (6 ∷ 2 ∷ 1 ∷ 0 ∷ 2 ∷ 1 ∷ 0 ∷ 0 ∷ 0 ∷ 0 ∷ 93 ∷ 94 ∷ [])
          (0 ∷ 1 ∷ 2 ∷ 3 ∷ 1 ∷ 2 ∷ 3 ∷ 0 ∷ 0 ∷ 0 ∷ 95 ∷ 96 ∷ [])
          (1 ∷ 1 ∷ 1 ∷ 1 ∷ 1 ∷ 1 ∷ 1 ∷ 0 ∷ 0 ∷ 0 ∷ 97 ∷ 98 ∷ [])
          (1 ∷ 2 ∷ 3 ∷ 4 ∷ 6 ∷ 3 ∷ 4 ∷ 0 ∷ 0 ∷ 0 ∷ 99 ∷ 90 ∷ [])
          7);
    } ∷
    -- another: rename 22, which goes with turbine 20; rename 32, which is row 3 by then; delete 40
    record {
      call = changes farm (2 ∷ 1 ∷ 2 ∷ 1 ∷ []) (22 ∷ 20 ∷ 32 ∷ 40 ∷ []) (9 ∷ 0 ∷ 8 ∷ 0 ∷ []);
      gives = finishes 4 4
          (table_of
          (10 ∷ 30 ∷ 31 ∷ 32 ∷ 0 ∷ 0 ∷ 0 ∷ 0 ∷ 0 ∷ 0 ∷ 91 ∷ 92 ∷ [])
          (3 ∷ 2 ∷ 1 ∷ 0 ∷ 0 ∷ 0 ∷ 0 ∷ 0 ∷ 0 ∷ 0 ∷ 93 ∷ 94 ∷ [])
          (0 ∷ 1 ∷ 2 ∷ 3 ∷ 0 ∷ 0 ∷ 0 ∷ 0 ∷ 0 ∷ 0 ∷ 95 ∷ 96 ∷ [])
          (1 ∷ 1 ∷ 1 ∷ 1 ∷ 0 ∷ 0 ∷ 0 ∷ 0 ∷ 0 ∷ 0 ∷ 97 ∷ 98 ∷ [])
          (1 ∷ 2 ∷ 3 ∷ 8 ∷ 0 ∷ 0 ∷ 0 ∷ 0 ∷ 0 ∷ 0 ∷ 99 ∷ 90 ∷ [])
          4);
    } ∷
    -- no spare rows, and other kinds: an instruction is renamed, a text above it goes, it is renamed again, and an
    -- element with its child goes from the end
    record {
      call = changes mixed (2 ∷ 1 ∷ 2 ∷ 1 ∷ []) (6 ∷ 3 ∷ 6 ∷ 8 ∷ []) (7 ∷ 0 ∷ 8 ∷ 0 ∷ []);
      gives = finishes 4 6
          (table_of
          (1 ∷ 2 ∷ 4 ∷ 5 ∷ 6 ∷ 7 ∷ 0 ∷ 0 ∷ 0 ∷ [])
          (5 ∷ 4 ∷ 0 ∷ 1 ∷ 0 ∷ 0 ∷ 0 ∷ 0 ∷ 0 ∷ [])
          (0 ∷ 1 ∷ 2 ∷ 2 ∷ 3 ∷ 2 ∷ 0 ∷ 0 ∷ 0 ∷ [])
          (0 ∷ 1 ∷ 4 ∷ 1 ∷ 4 ∷ 3 ∷ 0 ∷ 0 ∷ 0 ∷ [])
          (0 ∷ 4 ∷ 4 ∷ 9 ∷ 8 ∷ 0 ∷ 0 ∷ 0 ∷ 0 ∷ [])
          6);
    } ∷
    -- columns with 0 to 4 spare rows: each keeps its own
    record {
      call =
          changes
          (table_of (1 ∷ 2 ∷ 3 ∷ []) (2 ∷ 0 ∷ 0 ∷ 71 ∷ []) (0 ∷ 1 ∷ 1 ∷ 72 ∷ 73 ∷ [])
          (1 ∷ 1 ∷ 1 ∷ 74 ∷ 75 ∷ 76 ∷ []) (4 ∷ 4 ∷ 4 ∷ 77 ∷ 78 ∷ 79 ∷ 80 ∷ []) 3)
          (1 ∷ 1 ∷ []) (2 ∷ 3 ∷ []) (0 ∷ 0 ∷ []);
      gives = finishes 2 1
          (table_of (1 ∷ 0 ∷ 0 ∷ []) (0 ∷ 0 ∷ 0 ∷ 71 ∷ []) (0 ∷ 0 ∷ 0 ∷ 72 ∷ 73 ∷ [])
          (1 ∷ 0 ∷ 0 ∷ 74 ∷ 75 ∷ 76 ∷ []) (4 ∷ 0 ∷ 0 ∷ 77 ∷ 78 ∷ 79 ∷ 80 ∷ []) 1);
    } ∷
    -- the empty list; a list of one; the name of a deletion is ignored
    record { call = changes farm [] [] []; gives = finishes 0 10 farm } ∷
    record { call = changes farm (2 ∷ []) (30 ∷ []) (6 ∷ []); gives = finishes 1 10 renamed30 } ∷
    record { call = changes farm (1 ∷ []) (21 ∷ []) (0 ∷ []); gives = finishes 1 8 without21 } ∷
    record { call = changes farm (1 ∷ []) (21 ∷ []) (77 ∷ []); gives = finishes 1 8 without21 } ∷
    -- one key renamed twice: the later name stays; and renamed, then deleted
    record { call = changes farm (2 ∷ 2 ∷ []) (30 ∷ 30 ∷ []) (5 ∷ 6 ∷ []); gives = finishes 2 10 renamed30 } ∷
    record { call = changes farm (2 ∷ 1 ∷ []) (21 ∷ 21 ∷ []) (5 ∷ 6 ∷ []); gives = finishes 2 8 without21 } ∷
    -- ── a refusal in the middle: earlier items are done, it changes nothing, later ones are not tried ──
    -- 9: a key that an earlier item deleted, renamed and deleted again; a key below it; a key that never was
    record {
      call = changes farm (1 ∷ 2 ∷ 1 ∷ []) (21 ∷ 21 ∷ 40 ∷ []) (0 ∷ 6 ∷ 0 ∷ []);
      gives = stops 9 0 1 8 without21;
    } ∷
    record {
      call = changes farm (1 ∷ 1 ∷ 2 ∷ []) (21 ∷ 21 ∷ 30 ∷ []) (0 ∷ 0 ∷ 6 ∷ []);
      gives = stops 9 0 1 8 without21;
    } ∷
    record {
      call = changes farm (1 ∷ 1 ∷ 2 ∷ []) (21 ∷ 22 ∷ 30 ∷ []) (0 ∷ 0 ∷ 6 ∷ []);
      gives = stops 9 0 1 8 without21;
    } ∷
    record {
      call = changes farm (2 ∷ 1 ∷ 1 ∷ []) (30 ∷ 99 ∷ 40 ∷ []) (6 ∷ 0 ∷ 0 ∷ []);
      gives = stops 9 0 1 10 renamed30;
    } ∷
    -- 9: the key of a spare row; key 0, which the freed rows hold
    record {
      call = changes farm (1 ∷ 1 ∷ 1 ∷ []) (21 ∷ 91 ∷ 40 ∷ []) (0 ∷ 0 ∷ 0 ∷ []);
      gives = stops 9 0 1 8 without21;
    } ∷
    record {
      call = changes farm (1 ∷ 1 ∷ 1 ∷ []) (21 ∷ 0 ∷ 40 ∷ []) (0 ∷ 0 ∷ 0 ∷ []);
      gives = stops 9 0 1 8 without21;
    } ∷
    -- 15: the only root, first in the list, and after a renaming
    record {
      call = changes farm (1 ∷ 1 ∷ []) (10 ∷ 40 ∷ []) (0 ∷ 0 ∷ []);
      gives = stops 15 0 0 10 farm;
    } ∷
    record {
      call = changes farm (2 ∷ 1 ∷ 1 ∷ []) (30 ∷ 10 ∷ 40 ∷ []) (6 ∷ 0 ∷ 0 ∷ []);
      gives = stops 15 0 1 10 renamed30;
    } ∷
    -- 16: a comment, row 9 of the farm, and row 7 once two rows before it went; behind two items, last in the list
    record {
      call = changes farm (2 ∷ 1 ∷ []) (40 ∷ 21 ∷ []) (5 ∷ 0 ∷ []);
      gives = stops 16 9 0 10 farm;
    } ∷
    record {
      call = changes farm (1 ∷ 2 ∷ 2 ∷ []) (21 ∷ 40 ∷ 30 ∷ []) (0 ∷ 5 ∷ 6 ∷ []);
      gives = stops 16 7 1 8 without21;
    } ∷
    record {
      call = changes farm (1 ∷ 2 ∷ 2 ∷ []) (21 ∷ 30 ∷ 40 ∷ []) (0 ∷ 6 ∷ 5 ∷ []);
      gives = stops 16 7 2 8 (named without21 (1 ∷ 2 ∷ 3 ∷ 4 ∷ 6 ∷ 3 ∷ 4 ∷ 0 ∷ 0 ∷ 0 ∷ 99 ∷ 90 ∷ []));
    } ∷
    -- 16: a renaming to 0, of row 6 of the farm, row 4 by then
    record {
      call = changes farm (2 ∷ []) (30 ∷ []) (0 ∷ []);
      gives = stops 16 6 0 10 farm;
    } ∷
    record {
      call = changes farm (1 ∷ 2 ∷ 1 ∷ []) (21 ∷ 30 ∷ 40 ∷ []) (0 ∷ 0 ∷ 0 ∷ []);
      gives = stops 16 4 1 8 without21;
    } ∷
    -- ── three farms ──
    -- roots go one after the other, the last one does not: in table order, and with the second one left
    record {
      call = changes farms (1 ∷ 1 ∷ 1 ∷ []) (10 ∷ 20 ∷ 30 ∷ []) (0 ∷ 0 ∷ 0 ∷ []);
      gives = stops 15 0 2 1
          (table_of
          (30 ∷ 0 ∷ 0 ∷ 0 ∷ 0 ∷ 0 ∷ 0 ∷ 0 ∷ 91 ∷ 92 ∷ [])
          (0 ∷ 0 ∷ 0 ∷ 0 ∷ 0 ∷ 0 ∷ 0 ∷ 0 ∷ 93 ∷ 94 ∷ [])
          (0 ∷ 0 ∷ 0 ∷ 0 ∷ 0 ∷ 0 ∷ 0 ∷ 0 ∷ 95 ∷ 96 ∷ [])
          (1 ∷ 0 ∷ 0 ∷ 0 ∷ 0 ∷ 0 ∷ 0 ∷ 0 ∷ 97 ∷ 98 ∷ [])
          (1 ∷ 0 ∷ 0 ∷ 0 ∷ 0 ∷ 0 ∷ 0 ∷ 0 ∷ 99 ∷ 90 ∷ [])
          1);
    } ∷
    record {
      call = changes farms (1 ∷ 1 ∷ 1 ∷ 1 ∷ []) (30 ∷ 10 ∷ 20 ∷ 21 ∷ []) (0 ∷ 0 ∷ 0 ∷ 0 ∷ []);
      gives = stops 15 0 2 3
          (table_of
          (20 ∷ 21 ∷ 22 ∷ 0 ∷ 0 ∷ 0 ∷ 0 ∷ 0 ∷ 91 ∷ 92 ∷ [])
          (2 ∷ 0 ∷ 0 ∷ 0 ∷ 0 ∷ 0 ∷ 0 ∷ 0 ∷ 93 ∷ 94 ∷ [])
          (0 ∷ 1 ∷ 1 ∷ 0 ∷ 0 ∷ 0 ∷ 0 ∷ 0 ∷ 95 ∷ 96 ∷ [])
          (0 ∷ 1 ∷ 3 ∷ 0 ∷ 0 ∷ 0 ∷ 0 ∷ 0 ∷ 97 ∷ 98 ∷ [])
          (0 ∷ 2 ∷ 0 ∷ 0 ∷ 0 ∷ 0 ∷ 0 ∷ 0 ∷ 99 ∷ 90 ∷ [])
          3);
    } ∷
    -- the first farm goes: a document that stands at row 0 by then is not renamed, nor a key of the farm that went
    record {
      call = changes farms (1 ∷ 2 ∷ []) (10 ∷ 20 ∷ []) (0 ∷ 6 ∷ []);
      gives = stops 16 0 1 4
          (table_of
          (20 ∷ 21 ∷ 22 ∷ 30 ∷ 0 ∷ 0 ∷ 0 ∷ 0 ∷ 91 ∷ 92 ∷ [])
          (2 ∷ 0 ∷ 0 ∷ 0 ∷ 0 ∷ 0 ∷ 0 ∷ 0 ∷ 93 ∷ 94 ∷ [])
          (0 ∷ 1 ∷ 1 ∷ 0 ∷ 0 ∷ 0 ∷ 0 ∷ 0 ∷ 95 ∷ 96 ∷ [])
          (0 ∷ 1 ∷ 3 ∷ 1 ∷ 0 ∷ 0 ∷ 0 ∷ 0 ∷ 97 ∷ 98 ∷ [])
          (0 ∷ 2 ∷ 0 ∷ 1 ∷ 0 ∷ 0 ∷ 0 ∷ 0 ∷ 99 ∷ 90 ∷ [])
          4);
    } ∷
    record {
      call = changes farms (1 ∷ 1 ∷ 2 ∷ []) (20 ∷ 30 ∷ 21 ∷ []) (0 ∷ 0 ∷ 6 ∷ []);
      gives = stops 9 0 2 4
          (table_of
          (10 ∷ 11 ∷ 12 ∷ 13 ∷ 0 ∷ 0 ∷ 0 ∷ 0 ∷ 91 ∷ 92 ∷ [])
          (3 ∷ 1 ∷ 0 ∷ 0 ∷ 0 ∷ 0 ∷ 0 ∷ 0 ∷ 93 ∷ 94 ∷ [])
          (0 ∷ 1 ∷ 2 ∷ 1 ∷ 0 ∷ 0 ∷ 0 ∷ 0 ∷ 95 ∷ 96 ∷ [])
          (1 ∷ 1 ∷ 1 ∷ 1 ∷ 0 ∷ 0 ∷ 0 ∷ 0 ∷ 97 ∷ 98 ∷ [])
          (1 ∷ 2 ∷ 3 ∷ 2 ∷ 0 ∷ 0 ∷ 0 ∷ 0 ∷ 99 ∷ 90 ∷ [])
          4);
    } ∷
    -- ── 1, 2 and 18: nothing done, the count as it was given ──
    -- 1: the count is above the shortest column, so that row 10, which is not sound, is in use too; it is 0. Also for
    -- an empty list, for items that would be refused, and for a list that would be
    record { call = changes (counted 13) (1 ∷ []) (21 ∷ []) (0 ∷ []); gives = stops 1 0 0 13 (counted 13) } ∷
    record { call = changes (counted 13) [] [] []; gives = stops 1 0 0 13 (counted 13) } ∷
    record { call = changes (counted 13) (1 ∷ []) (99 ∷ []) (0 ∷ []); gives = stops 1 0 0 13 (counted 13) } ∷
    record { call = changes (counted 13) (3 ∷ []) (21 ∷ []) (0 ∷ []); gives = stops 1 0 0 13 (counted 13) } ∷
    record { call = changes (counted 0) (1 ∷ 1 ∷ []) (21 ∷ []) []; gives = stops 1 0 0 0 (counted 0) } ∷
    -- 2: the least row that is not sound; also for an empty list, for items and lists that would be refused
    record { call = changes two_bad (1 ∷ []) (30 ∷ []) (0 ∷ []); gives = stops 2 1 0 4 two_bad } ∷
    record { call = changes two_bad [] [] []; gives = stops 2 1 0 4 two_bad } ∷
    record { call = changes two_bad (1 ∷ []) (99 ∷ []) (0 ∷ []); gives = stops 2 1 0 4 two_bad } ∷
    record { call = changes two_bad (1 ∷ 3 ∷ []) (99 ∷ 30 ∷ []) (0 ∷ 0 ∷ []); gives = stops 2 1 0 4 two_bad } ∷
    record { call = changes two_bad (1 ∷ []) [] (0 ∷ []); gives = stops 2 1 0 4 two_bad } ∷
    record {
      call = changes two_bad (replicate 257 1) (replicate 257 30) (replicate 257 0);
      gives = stops 2 1 0 4 two_bad;
    } ∷
    -- 18: fewer codes than keys, and more; fewer names than keys, and more; one column empty
    record { call = changes farm (1 ∷ []) (21 ∷ 40 ∷ []) (0 ∷ 0 ∷ []); gives = stops 18 0 0 10 farm } ∷
    record { call = changes farm (1 ∷ 1 ∷ []) (21 ∷ []) (0 ∷ 0 ∷ []); gives = stops 18 0 0 10 farm } ∷
    record { call = changes farm (1 ∷ 1 ∷ []) (21 ∷ 40 ∷ []) (0 ∷ []); gives = stops 18 0 0 10 farm } ∷
    record { call = changes farm (1 ∷ 1 ∷ []) (21 ∷ 40 ∷ []) (0 ∷ 0 ∷ 0 ∷ []); gives = stops 18 0 0 10 farm } ∷
    record { call = changes farm [] (21 ∷ []) (0 ∷ []); gives = stops 18 0 0 10 farm } ∷
    record { call = changes farm (1 ∷ []) [] (0 ∷ []); gives = stops 18 0 0 10 farm } ∷
    record { call = changes farm (1 ∷ []) (21 ∷ []) []; gives = stops 18 0 0 10 farm } ∷
    -- 18: 257 items; 256 are fine, here renamings of one row
    record {
      call = changes leaf (replicate 257 2) (replicate 257 50) (replicate 257 6);
      gives = stops 18 0 0 1 leaf;
    } ∷
    record {
      call = changes leaf (replicate 256 2) (replicate 256 50) (replicate 256 6);
      gives = finishes 256 1 (named leaf (6 ∷ []));
    } ∷
    -- 18: code 0 and code 3, first and last; behind items that would be done, and behind one that would be refused
    record { call = changes farm (0 ∷ []) (21 ∷ []) (6 ∷ []); gives = stops 18 0 0 10 farm } ∷
    record { call = changes farm (3 ∷ 1 ∷ []) (21 ∷ 40 ∷ []) (6 ∷ 0 ∷ []); gives = stops 18 0 0 10 farm } ∷
    record {
      call = changes farm (1 ∷ 2 ∷ 0 ∷ []) (21 ∷ 30 ∷ 40 ∷ []) (0 ∷ 6 ∷ 0 ∷ []);
      gives = stops 18 0 0 10 farm;
    } ∷
    record {
      call = changes farm (1 ∷ 2 ∷ 3 ∷ []) (21 ∷ 30 ∷ 40 ∷ []) (0 ∷ 6 ∷ 0 ∷ []);
      gives = stops 18 0 0 10 farm;
    } ∷
    record { call = changes farm (1 ∷ 0 ∷ []) (99 ∷ 40 ∷ []) (0 ∷ 0 ∷ []); gives = stops 18 0 0 10 farm } ∷
    record { call = changes farm (1 ∷ 3 ∷ []) (10 ∷ 40 ∷ []) (0 ∷ 0 ∷ []); gives = stops 18 0 0 10 farm } ∷
    record { call = changes farm (2 ∷ 3 ∷ []) (40 ∷ 30 ∷ []) (5 ∷ 6 ∷ []); gives = stops 18 0 0 10 farm } ∷
    []

-- each call gives what its case says
pub farm_batch : map (λ c. run c.call) cases ≡ map (λ c. c.gives) cases
unfolding batch_outcome batch_if batch_check list_check one_by_one unless_refused item_outcome items_of edit_if
    edit_check delete_outcome rename_outcome given next table_check key_check delete_check rename_check closed changed
    deleted renamed parent above ancestor other_root level_ok run_of size_of size_ok kind_ok has_name name_ok row_of
    key_ok beside_key_ok row_ok first_bad shortest count_ok least nearest some_below
farm_batch = refl
