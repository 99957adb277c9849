-- The small farm and three farms: where a key's row is, and under what. RULES 02, E3, computed by the prover:
-- `farm_find`. Assumes nothing.
use mathlib.Core.Path.{◌≡◌, refl}
use mathlib.Core.List.{List, [], ◌∷◌, map}
use Rattle.tree.specs.Search.{least, nearest, some_below}
use Rattle.tree.specs.Table.{shortest, count_ok}
use Rattle.tree.specs.Sound.{level_ok, run_of, size_of, size_ok, kind_ok, has_name, name_ok, row_of, key_ok}
use Rattle.tree.specs.Sound.{beside_key_ok, row_ok, first_bad}
use Rattle.tree.specs.Tree.{parent, above, ancestor, other_root}
use Rattle.tree.specs.Edit.{opened, closed, changed, gap_of, inserted, deleted, minus, insert_done, delete_done}
use Rattle.tree.specs.Refusal.{given, given_at, next, table_check, key_check, bad_piece, insert_check, delete_check}
use Rattle.tree.specs.Outcome.{stands_by, standing, located, find_outcome}
use Rattle.tree.specs.Outcome.{edit_if, edit_check, insert_outcome, delete_outcome}
use Rattle.tree.proofs.FarmCalls.{Case, run, farm, leaf, ladder, counted, two_bad, a_root, a_child}
use Rattle.tree.proofs.FarmCalls.Call.{find}
use Rattle.tree.proofs.FarmCalls.Gives.{found}
use Rattle.tree.proofs.Farms.{farms}
use Rattle.std.specs.Prelude.{Err}

-- the calls, with what each gives
abbrev pub cases : List Case
cases =
    -- every row of the small farm: the farm, its turbines under it, blades under turbines, setpoints under blades
    record { call = find farm 10; gives = a_root 0 } ∷
    record { call = find farm 20; gives = a_child 1 1 0 } ∷
    record { call = find farm 21; gives = a_child 2 2 1 } ∷
    record { call = find farm 22; gives = a_child 3 3 2 } ∷
    record { call = find farm 23; gives = a_child 4 2 1 } ∷
    record { call = find farm 24; gives = a_child 5 3 4 } ∷
    record { call = find farm 30; gives = a_child 6 1 0 } ∷
    record { call = find farm 31; gives = a_child 7 2 6 } ∷
    record { call = find farm 32; gives = a_child 8 3 7 } ∷
    record { call = find farm 40; gives = a_child 9 1 0 } ∷
    -- each root of three farms, and rows of the first and the second: a parent is in the same tree
    record { call = find farms 10; gives = a_root 0 } ∷
    record { call = find farms 20; gives = a_root 4 } ∷
    record { call = find farms 30; gives = a_root 7 } ∷
    record { call = find farms 13; gives = a_child 3 1 0 } ∷
    record { call = find farms 21; gives = a_child 5 1 4 } ∷
    record { call = find farms 22; gives = a_child 6 1 4 } ∷
    -- the deepest row there can be
    record { call = find (ladder 64) 64; gives = a_child 63 63 62 } ∷
    -- after an insertion: the piece's row under its parent, and a row that moved but has the parent it had
    record { call = find (insert_outcome farm 31 leaf).table 50; gives = a_child 9 3 7 } ∷
    record { call = find (insert_outcome farm 31 leaf).table 40; gives = a_child 10 1 0 } ∷
    -- after a deletion: row and parent both moved; and a root that moved to row 0
    record { call = find (delete_outcome farm 21).table 31; gives = a_child 5 2 4 } ∷
    record { call = find (delete_outcome farms 10).table 20; gives = a_root 0 } ∷
    -- the refusals, as before: the count, a row that is not sound, a spare row's key, key 0
    record { call = find (counted 13) 31; gives = found (Err (1, 0)) } ∷
    record { call = find two_bad 30; gives = found (Err (2, 1)) } ∷
    record { call = find farm 92; gives = found (Err (9, 0)) } ∷
    record { call = find farm 0; gives = found (Err (9, 0)) } ∷
    []

-- each call gives what its case says
pub farm_find : map (λ c. run c.call) cases ≡ map (λ c. c.gives) cases
unfolding find_outcome located standing stands_by edit_if edit_check insert_outcome delete_outcome given given_at next
    table_check key_check bad_piece insert_check delete_check opened closed changed gap_of inserted deleted minus
    insert_done delete_done parent above ancestor other_root level_ok run_of size_of size_ok kind_ok has_name name_ok
    row_of key_ok beside_key_ok row_ok first_bad shortest count_ok least nearest some_below
farm_find = refl
