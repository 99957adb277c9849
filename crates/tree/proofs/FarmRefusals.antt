-- The order of the refusals: RULES 01, "Where several apply, the lowest is given". For each call, and each two of its
-- refusals that come one after the other and can apply at once, a case to which both apply. One table of calls with
-- what each gives, `cases`, and one theorem, `lowest_given`. Those of carrying pairs are in FarmCarry.antt.
-- Assumes nothing.
use mathlib.Core.Path.{◌≡◌, refl}
use mathlib.Core.List.{List, [], ◌∷◌, map}
use Rattle.tree.specs.Search.{least, some_below, nearest, gather}
use Rattle.tree.specs.Table.{shortest, count_ok}
use Rattle.tree.specs.Sound.{level_ok, run_of, size_of, size_ok, kind_ok, has_name, name_ok}
use Rattle.tree.specs.Sound.{row_of, key_ok, beside_key_ok, row_ok, first_bad}
use Rattle.tree.specs.Tree.{parent, above, ancestor, siblings, root, same_tree, other_root}
use Rattle.tree.specs.Axis.{axis_ok, following, preceding, on_axis}
use Rattle.tree.specs.Test.{test_ok, passes}
use Rattle.tree.specs.Pairs.{pairs_of, with_role, roles_of, rows_of, before, out_of_order, some, distinct}
use Rattle.tree.specs.Step.{ask_of, listed, reached, lines_of, step_list}
use Rattle.tree.specs.Kept.{drops, remaining, kept_count}
use Rattle.tree.specs.Edit.{gap_of, insert_done, delete_done, rename_done}
use Rattle.tree.specs.Refusal.{given, given_at, next, table_check, pair_check, ask_check, room_check, key_check}
use Rattle.tree.specs.Refusal.{bad_piece, insert_check, delete_check, rename_check}
use Rattle.tree.specs.Outcome.{check_outcome, find_outcome, located, step_outcome, step_if, step_check}
use Rattle.tree.specs.Outcome.{overwritten, edit_if, edit_check, insert_outcome, delete_outcome, rename_outcome}
use Rattle.tree.proofs.FarmCalls.{farm, leaf, leaf_of, ladder, counted, two_bad, deep_text, run, Case}
use Rattle.tree.proofs.FarmCalls.{step_on, refuses, keeps}
use Rattle.tree.proofs.FarmCalls.Call.{check, step, find, insert, delete, rename}
use Rattle.tree.proofs.FarmCalls.Gives.{checked, stepped, found}
use Rattle.std.specs.Prelude.{Err}

-- the calls, with what each gives
abbrev pub cases : List Case
cases =
    -- check: 1 before 2. The count is above the shortest column, and row 10 is not sound
    record { call = check (counted 13); gives = checked (Err (1, 0)) } ∷
    -- find: 1 before 2; 2 before 9
    record { call = find (counted 13) 31; gives = found (Err (1, 0)) } ∷
    record { call = find two_bad 99; gives = found (Err (2, 1)) } ∷
    -- step: 1 before 2; 2 before 3; 3 before 4, where the columns differ in length and the roles fall
    record { call = step_on (counted 13) (5 ∷ []) (1 ∷ []) 1 0 0; gives = refuses 1 0 } ∷
    record { call = step_on two_bad (5 ∷ []) [] 1 0 0; gives = refuses 2 1 } ∷
    record { call = step_on farm (5 ∷ 4 ∷ []) (1 ∷ []) 1 0 0; gives = refuses 3 0 } ∷
    -- step: 4 before 5, also where 5 is at an earlier place; 5 before 6; 6 before 7
    record { call = step_on farm (5 ∷ 5 ∷ 4 ∷ []) (1 ∷ 10 ∷ 1 ∷ []) 1 0 0; gives = refuses 4 2 } ∷
    record { call = step_on farm (5 ∷ 5 ∷ []) (1 ∷ 10 ∷ []) 12 0 0; gives = refuses 5 1 } ∷
    record { call = step_on farm (5 ∷ []) (1 ∷ []) 12 0 4; gives = refuses 6 0 } ∷
    -- step: 7 before 8. A name with test 0; every row passes that, and there is no room for one
    record {
      call = step farm (5 ∷ []) (1 ∷ []) (ask_of 3 0 4) [] [];
      gives = stepped (Err (7, 0)) [] [];
    } ∷
    -- insert: 1 before 2; 2 before 9; 9 before 10; 10 before 11
    record { call = insert (counted 13) 31 leaf; gives = keeps 1 0 (counted 13) } ∷
    record { call = insert two_bad 99 leaf; gives = keeps 2 1 two_bad } ∷
    record { call = insert farm 99 two_bad; gives = keeps 9 0 farm } ∷
    record { call = insert farm 40 two_bad; gives = keeps 10 0 farm } ∷
    -- insert: 11 before 12, under a text of level 63; 12 before 13, with a key of the table; 13 before 14
    record { call = insert deep_text 64 (leaf_of 99); gives = keeps 11 63 deep_text } ∷
    record { call = insert (ladder 64) 64 (leaf_of 1); gives = keeps 12 0 (ladder 64) } ∷
    record { call = insert (ladder 64) 63 (leaf_of 1); gives = keeps 13 0 (ladder 64) } ∷
    -- delete: 1 before 2; 2 before 9. Not 9 with 15: where no row has the key, none is the only root
    record { call = delete (counted 13) 10; gives = keeps 1 0 (counted 13) } ∷
    record { call = delete two_bad 99; gives = keeps 2 1 two_bad } ∷
    record { call = delete leaf 99; gives = keeps 9 0 leaf } ∷
    -- rename: 1 before 2; 2 before 9; 9 before 16, with the new name 0
    record { call = rename (counted 13) 24 6; gives = keeps 1 0 (counted 13) } ∷
    record { call = rename two_bad 99 6; gives = keeps 2 1 two_bad } ∷
    record { call = rename farm 99 0; gives = keeps 9 0 farm } ∷
    []

-- each call gives what its case says
pub lowest_given : map (λ c. run c.call) cases ≡ map (λ c. c.gives) cases
unfolding check_outcome find_outcome located step_outcome step_if step_check overwritten edit_if edit_check
    insert_outcome delete_outcome rename_outcome given given_at next table_check pair_check ask_check room_check
    key_check bad_piece insert_check delete_check rename_check gap_of insert_done delete_done rename_done drops
    remaining kept_count listed reached lines_of step_list pairs_of with_role roles_of rows_of before out_of_order
    some distinct test_ok passes axis_ok following preceding on_axis parent above ancestor siblings root same_tree
    other_root level_ok run_of size_of size_ok kind_ok has_name name_ok row_of key_ok beside_key_ok row_ok first_bad
    shortest count_ok least nearest some_below gather
lowest_given = refl
