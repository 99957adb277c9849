-- Several farms in one table: RULES 02, E2, worked cases as one table of calls with what each gives, `cases`, and one
-- theorem, `several_farms`. A step on them, farm by farm: `farms_parts`.
-- Assumes nothing.
use Prim.Native.Nat.{ℕ}
use mathlib.Core.Path.{◌≡◌, refl}
use mathlib.Core.List.{List, [], ◌∷◌, map}
use lib.IntN.{pos, negsuc}
use lib.ListN.{replicate}
use Rattle.tree.specs.Search.{least, some_below, nearest, gather}
use Rattle.tree.specs.Table.{Table, table_of, shortest, count_ok}
use Rattle.tree.specs.Sound.{level_ok, run_of, size_of, size_ok, kind_ok, has_name, name_ok}
use Rattle.tree.specs.Sound.{row_of, key_ok, beside_key_ok, row_ok, first_bad}
use Rattle.tree.specs.Tree.{parent, above, ancestor, siblings, root, same_tree, other_root}
use Rattle.tree.specs.Axis.{axis_ok, following, preceding, on_axis}
use Rattle.tree.specs.Test.{test_ok, passes}
use Rattle.tree.specs.Pairs.{Pair, pairs_of, with_role, roles_of, rows_of, before, out_of_order, some, distinct}
use Rattle.tree.specs.Step.{ask_of, listed, reached, lines_of, step_list}
use Rattle.tree.specs.Kept.{drops, remaining, kept_count}
use Rattle.tree.specs.Edit.{opened, closed, changed, gap_of, inserted, deleted, renamed, minus}
use Rattle.tree.specs.Edit.{insert_done, delete_done, rename_done}
use Rattle.tree.specs.Refusal.{given, given_at, next, table_check, pair_check, ask_check, room_check, key_check}
use Rattle.tree.specs.Refusal.{bad_piece, insert_check, delete_check, rename_check}
use Rattle.tree.specs.Outcome.{check_outcome, stands_by, standing, located, find_outcome}
use Rattle.tree.specs.Outcome.{step_outcome, step_if, step_check}
use Rattle.tree.specs.Outcome.{overwritten, edit_if, edit_check, insert_outcome, delete_outcome, rename_outcome}
use Rattle.tree.specs.Carry.{carried_by}
use Rattle.tree.specs.Trees.{pairs_in, sum_where, over_trees, tree_results, tree_kept}
use Rattle.tree.proofs.FarmCalls.{leaf, run, Case, Call, lists, a_root, makes, keeps}
use Rattle.tree.proofs.FarmCalls.Call.{check, step, find, insert, delete, rename}
use Rattle.tree.proofs.FarmCalls.Gives.{checked}
use Rattle.std.specs.Prelude.{Ok, Err}

-- three farms, with two spare rows: rows 0 to 3, rows 4 to 6 under a document, and row 7 alone
abbrev pub farms : Table
farms =
    table_of
    (10 ∷ 11 ∷ 12 ∷ 13 ∷ 20 ∷ 21 ∷ 22 ∷ 30 ∷ 91 ∷ 92 ∷ [])
    (3 ∷ 1 ∷ 0 ∷ 0 ∷ 2 ∷ 0 ∷ 0 ∷ 0 ∷ 93 ∷ 94 ∷ [])
    (0 ∷ 1 ∷ 2 ∷ 1 ∷ 0 ∷ 1 ∷ 1 ∷ 0 ∷ 95 ∷ 96 ∷ [])
    (1 ∷ 1 ∷ 1 ∷ 1 ∷ 0 ∷ 1 ∷ 3 ∷ 1 ∷ 97 ∷ 98 ∷ [])
    (1 ∷ 2 ∷ 3 ∷ 2 ∷ 0 ∷ 2 ∷ 0 ∷ 1 ∷ 99 ∷ 90 ∷ [])
    8

-- the pairs (5,2), (5,3), (5,6), (7,1), (7,5), (7,7); result columns of 12
abbrev held : List Pair
held = pairs_of (5 ∷ 5 ∷ 5 ∷ 7 ∷ 7 ∷ 7 ∷ []) (2 ∷ 3 ∷ 6 ∷ 1 ∷ 5 ∷ 7 ∷ [])

abbrev farms_step : ℕ → ℕ → Call
farms_step a t =
    step farms (5 ∷ 5 ∷ 5 ∷ 7 ∷ 7 ∷ 7 ∷ []) (2 ∷ 3 ∷ 6 ∷ 1 ∷ 5 ∷ 7 ∷ []) (ask_of a t 0) (replicate 12 77)
    (replicate 12 88)

-- the pairs of role 1 on the three roots
abbrev roots_step : ℕ → ℕ → Call
roots_step a t = step farms (1 ∷ 1 ∷ 1 ∷ []) (0 ∷ 4 ∷ 7 ∷ []) (ask_of a t 0) (replicate 12 77) (replicate 12 88)

-- a table of elements with these sizes and levels
abbrev shaped : List ℕ → List ℕ → List ℕ → List ℕ → ℕ → Table
shaped size level kind name n = table_of (1 ∷ 2 ∷ 3 ∷ 4 ∷ []) size level kind name n

-- the calls, with what each gives
abbrev pub cases : List Case
cases =
    -- the table, and each axis: none leaves the tree of its context
    record {
      call = check farms;
      gives = checked (Ok tt);
    } ∷
    record {
      call = farms_step 1 0;
      gives = lists 6 6 (5 ∷ 5 ∷ 5 ∷ 7 ∷ 7 ∷ 7 ∷ []) (2 ∷ 3 ∷ 6 ∷ 1 ∷ 5 ∷ 7 ∷ []);
    } ∷
    record {
      call = farms_step 2 0;
      gives = lists 6 11 (7 ∷ []) (2 ∷ []);
    } ∷
    record {
      call = farms_step 3 0;
      gives = lists 6 11 (7 ∷ []) (2 ∷ []);
    } ∷
    record {
      call = farms_step 4 0;
      gives = lists 6 5 (5 ∷ 5 ∷ 5 ∷ 7 ∷ 7 ∷ 7 ∷ 7 ∷ []) (2 ∷ 3 ∷ 6 ∷ 1 ∷ 2 ∷ 5 ∷ 7 ∷ []);
    } ∷
    record {
      call = farms_step 5 0;
      gives = lists 6 7 (5 ∷ 5 ∷ 5 ∷ 7 ∷ 7 ∷ []) (0 ∷ 1 ∷ 4 ∷ 0 ∷ 4 ∷ []);
    } ∷
    record {
      call = farms_step 6 0;
      gives = lists 6 7 (5 ∷ 5 ∷ 5 ∷ 7 ∷ 7 ∷ []) (0 ∷ 1 ∷ 4 ∷ 0 ∷ 4 ∷ []);
    } ∷
    record {
      call = farms_step 7 0;
      gives = lists 6 1 (5 ∷ 5 ∷ 5 ∷ 5 ∷ 5 ∷ 5 ∷ 7 ∷ 7 ∷ 7 ∷ 7 ∷ 7 ∷ [])
          (0 ∷ 1 ∷ 2 ∷ 3 ∷ 4 ∷ 6 ∷ 0 ∷ 1 ∷ 4 ∷ 5 ∷ 7 ∷ []);
    } ∷
    record {
      call = farms_step 8 0;
      gives = lists 5 9 (5 ∷ 7 ∷ 7 ∷ []) (3 ∷ 3 ∷ 6 ∷ []);
    } ∷
    record {
      call = farms_step 9 0;
      gives = lists 5 9 (5 ∷ 5 ∷ 5 ∷ []) (1 ∷ 2 ∷ 5 ∷ []);
    } ∷
    record {
      call = farms_step 10 0;
      gives = lists 6 10 (7 ∷ 7 ∷ []) (3 ∷ 6 ∷ []);
    } ∷
    record {
      call = farms_step 11 0;
      gives = lists 6 10 (5 ∷ 5 ∷ []) (1 ∷ 5 ∷ []);
    } ∷
    -- roots are nobody's siblings; each root is the one pair of its tree
    record {
      call = roots_step 8 0;
      gives = lists 3 12 [] [];
    } ∷
    record {
      call = roots_step 9 0;
      gives = lists 3 12 [] [];
    } ∷
    record {
      call = roots_step 10 0;
      gives = lists 3 12 [] [];
    } ∷
    record {
      call = roots_step 11 0;
      gives = lists 3 12 [] [];
    } ∷
    record {
      call = roots_step 2 0;
      gives = lists 3 8 (1 ∷ 1 ∷ 1 ∷ 1 ∷ []) (1 ∷ 3 ∷ 5 ∷ 6 ∷ []);
    } ∷
    record {
      call = roots_step 4 7;
      gives = lists 3 11 (1 ∷ []) (4 ∷ []);
    } ∷
    -- equal pairs count once, and one pair per role and tree remains
    record {
      call = step farms (5 ∷ 5 ∷ 5 ∷ 5 ∷ []) (1 ∷ 1 ∷ 3 ∷ 5 ∷ []) (ask_of 9 0 0) (replicate 12 77) (replicate 12 88);
      gives = lists 2 10 (5 ∷ 5 ∷ []) (1 ∷ 2 ∷ []);
    } ∷
    -- the level rule and the kind rule
    record {
      call = check (shaped (0 ∷ 0 ∷ 0 ∷ 0 ∷ []) (0 ∷ 0 ∷ 0 ∷ 0 ∷ []) (1 ∷ 0 ∷ 2 ∷ 0 ∷ []) (4 ∷ 0 ∷ 0 ∷ 0 ∷ []) 4);
      gives = checked (Ok tt);
    } ∷
    record {
      call = check (shaped (1 ∷ 0 ∷ 1 ∷ 0 ∷ []) (0 ∷ 1 ∷ 0 ∷ 2 ∷ []) (1 ∷ 1 ∷ 1 ∷ 1 ∷ []) (4 ∷ 4 ∷ 4 ∷ 4 ∷ []) 4);
      gives = checked (Err (2, 3));
    } ∷
    record {
      call = check (shaped (0 ∷ 0 ∷ 0 ∷ 0 ∷ []) (1 ∷ 0 ∷ 0 ∷ 0 ∷ []) (1 ∷ 1 ∷ 1 ∷ 1 ∷ []) (4 ∷ 4 ∷ 4 ∷ 4 ∷ []) 4);
      gives = checked (Err (2, 0));
    } ∷
    record {
      call = check (shaped (0 ∷ 1 ∷ 0 ∷ 0 ∷ []) (0 ∷ 0 ∷ 1 ∷ 0 ∷ []) (1 ∷ 1 ∷ 0 ∷ 1 ∷ []) (4 ∷ 4 ∷ 0 ∷ 4 ∷ []) 4);
      gives = checked (Err (2, 2));
    } ∷
    record {
      call = check (shaped (0 ∷ 1 ∷ 0 ∷ 0 ∷ []) (0 ∷ 0 ∷ 1 ∷ 0 ∷ []) (1 ∷ 2 ∷ 1 ∷ 1 ∷ []) (4 ∷ 0 ∷ 4 ∷ 4 ∷ []) 4);
      gives = checked (Err (2, 1));
    } ∷
    -- finding a root
    record {
      call = find farms 30;
      gives = a_root 7;
    } ∷
    -- a root is deleted with its descendants while another remains: the first, one between, the last
    record {
      call = delete farms 10;
      gives = makes 4 4 (negsuc 3)
          (table_of
          (20 ∷ 21 ∷ 22 ∷ 30 ∷ 0 ∷ 0 ∷ 0 ∷ 0 ∷ 91 ∷ 92 ∷ [])
          (2 ∷ 0 ∷ 0 ∷ 0 ∷ 0 ∷ 0 ∷ 0 ∷ 0 ∷ 93 ∷ 94 ∷ [])
          (0 ∷ 1 ∷ 1 ∷ 0 ∷ 0 ∷ 0 ∷ 0 ∷ 0 ∷ 95 ∷ 96 ∷ [])
          (0 ∷ 1 ∷ 3 ∷ 1 ∷ 0 ∷ 0 ∷ 0 ∷ 0 ∷ 97 ∷ 98 ∷ [])
          (0 ∷ 2 ∷ 0 ∷ 1 ∷ 0 ∷ 0 ∷ 0 ∷ 0 ∷ 99 ∷ 90 ∷ [])
          4);
    } ∷
    record {
      call = delete farms 20;
      gives = makes 5 7 (negsuc 2)
          (table_of
          (10 ∷ 11 ∷ 12 ∷ 13 ∷ 30 ∷ 0 ∷ 0 ∷ 0 ∷ 91 ∷ 92 ∷ [])
          (3 ∷ 1 ∷ 0 ∷ 0 ∷ 0 ∷ 0 ∷ 0 ∷ 0 ∷ 93 ∷ 94 ∷ [])
          (0 ∷ 1 ∷ 2 ∷ 1 ∷ 0 ∷ 0 ∷ 0 ∷ 0 ∷ 95 ∷ 96 ∷ [])
          (1 ∷ 1 ∷ 1 ∷ 1 ∷ 1 ∷ 0 ∷ 0 ∷ 0 ∷ 97 ∷ 98 ∷ [])
          (1 ∷ 2 ∷ 3 ∷ 2 ∷ 1 ∷ 0 ∷ 0 ∷ 0 ∷ 99 ∷ 90 ∷ [])
          5);
    } ∷
    record {
      call = delete farms 30;
      gives = makes 7 8 (negsuc 0)
          (table_of
          (10 ∷ 11 ∷ 12 ∷ 13 ∷ 20 ∷ 21 ∷ 22 ∷ 0 ∷ 91 ∷ 92 ∷ [])
          (3 ∷ 1 ∷ 0 ∷ 0 ∷ 2 ∷ 0 ∷ 0 ∷ 0 ∷ 93 ∷ 94 ∷ [])
          (0 ∷ 1 ∷ 2 ∷ 1 ∷ 0 ∷ 1 ∷ 1 ∷ 0 ∷ 95 ∷ 96 ∷ [])
          (1 ∷ 1 ∷ 1 ∷ 1 ∷ 0 ∷ 1 ∷ 3 ∷ 0 ∷ 97 ∷ 98 ∷ [])
          (1 ∷ 2 ∷ 3 ∷ 2 ∷ 0 ∷ 2 ∷ 0 ∷ 0 ∷ 99 ∷ 90 ∷ [])
          7);
    } ∷
    -- the only root is not
    record {
      call = delete leaf 50;
      gives = keeps 15 0 leaf;
    } ∷
    -- a piece of several trees is refused
    record {
      call = insert farms 21 (table_of (50 ∷ 51 ∷ []) (0 ∷ 0 ∷ []) (0 ∷ 0 ∷ []) (1 ∷ 1 ∷ []) (4 ∷ 4 ∷ []) 2);
      gives = keeps 10 0 farms;
    } ∷
    record {
      call = insert farms 21 farms;
      gives = keeps 10 0 farms;
    } ∷
    -- a piece comes under a row of its tree, and moves the later trees; under a document; at the end
    record {
      call = insert farms 21 leaf;
      gives = makes 9 6 (pos 1)
          (table_of
          (10 ∷ 11 ∷ 12 ∷ 13 ∷ 20 ∷ 21 ∷ 50 ∷ 22 ∷ 30 ∷ 92 ∷ [])
          (3 ∷ 1 ∷ 0 ∷ 0 ∷ 3 ∷ 1 ∷ 0 ∷ 0 ∷ 0 ∷ 94 ∷ [])
          (0 ∷ 1 ∷ 2 ∷ 1 ∷ 0 ∷ 1 ∷ 2 ∷ 1 ∷ 0 ∷ 96 ∷ [])
          (1 ∷ 1 ∷ 1 ∷ 1 ∷ 0 ∷ 1 ∷ 1 ∷ 3 ∷ 1 ∷ 98 ∷ [])
          (1 ∷ 2 ∷ 3 ∷ 2 ∷ 0 ∷ 2 ∷ 4 ∷ 0 ∷ 1 ∷ 90 ∷ [])
          9);
    } ∷
    record {
      call = insert farms 20 leaf;
      gives = makes 9 7 (pos 1)
          (table_of
          (10 ∷ 11 ∷ 12 ∷ 13 ∷ 20 ∷ 21 ∷ 22 ∷ 50 ∷ 30 ∷ 92 ∷ [])
          (3 ∷ 1 ∷ 0 ∷ 0 ∷ 3 ∷ 0 ∷ 0 ∷ 0 ∷ 0 ∷ 94 ∷ [])
          (0 ∷ 1 ∷ 2 ∷ 1 ∷ 0 ∷ 1 ∷ 1 ∷ 1 ∷ 0 ∷ 96 ∷ [])
          (1 ∷ 1 ∷ 1 ∷ 1 ∷ 0 ∷ 1 ∷ 3 ∷ 1 ∷ 1 ∷ 98 ∷ [])
          (1 ∷ 2 ∷ 3 ∷ 2 ∷ 0 ∷ 2 ∷ 0 ∷ 4 ∷ 1 ∷ 90 ∷ [])
          9);
    } ∷
    record {
      call = insert farms 30 leaf;
      gives = makes 9 8 (pos 1)
          (table_of
          (10 ∷ 11 ∷ 12 ∷ 13 ∷ 20 ∷ 21 ∷ 22 ∷ 30 ∷ 50 ∷ 92 ∷ [])
          (3 ∷ 1 ∷ 0 ∷ 0 ∷ 2 ∷ 0 ∷ 0 ∷ 1 ∷ 0 ∷ 94 ∷ [])
          (0 ∷ 1 ∷ 2 ∷ 1 ∷ 0 ∷ 1 ∷ 1 ∷ 0 ∷ 1 ∷ 96 ∷ [])
          (1 ∷ 1 ∷ 1 ∷ 1 ∷ 0 ∷ 1 ∷ 3 ∷ 1 ∷ 1 ∷ 98 ∷ [])
          (1 ∷ 2 ∷ 3 ∷ 2 ∷ 0 ∷ 2 ∷ 0 ∷ 1 ∷ 4 ∷ 90 ∷ [])
          9);
    } ∷
    -- a root is renamed
    record {
      call = rename farms 30 6;
      gives = makes 8 8 (pos 0)
          (table_of farms.key farms.size farms.level farms.kind
          (1 ∷ 2 ∷ 3 ∷ 2 ∷ 0 ∷ 2 ∷ 0 ∷ 6 ∷ 99 ∷ 90 ∷ []) 8);
    } ∷
    record {
      call = rename farms 20 6;
      gives = keeps 16 4 farms;
    } ∷
    []

-- each call gives what its case says
pub several_farms : map (λ c. run c.call) cases ≡ map (λ c. c.gives) cases
unfolding check_outcome find_outcome located standing stands_by step_outcome step_if step_check overwritten edit_if
    edit_check insert_outcome delete_outcome rename_outcome given given_at next table_check pair_check ask_check
    room_check key_check bad_piece insert_check delete_check rename_check opened closed changed gap_of inserted
    deleted renamed minus insert_done delete_done rename_done drops remaining kept_count listed reached lines_of
    step_list pairs_of with_role roles_of rows_of before out_of_order some distinct test_ok passes axis_ok following
    preceding on_axis parent above ancestor siblings root same_tree other_root level_ok run_of size_of size_ok kind_ok
    has_name name_ok row_of key_ok beside_key_ok row_ok first_bad shortest count_ok least nearest some_below gather
several_farms = refl

-- preceding on each farm by itself: what it lists and keeps, and that the whole call above has the sums
pub farms_parts : (map (tree_results farms (ask_of 9 0 0) held) (0 ∷ 4 ∷ 7 ∷ []) ≡ 2 ∷ 1 ∷ 0 ∷ [])
    × (map (tree_kept farms 9 held) (0 ∷ 4 ∷ 7 ∷ []) ≡ 2 ∷ 2 ∷ 1 ∷ [])
    × (over_trees farms (tree_results farms (ask_of 9 0 0) held) ≡ 3)
    × (over_trees farms (tree_kept farms 9 held) ≡ 5)
unfolding pairs_in sum_where carried_by drops remaining kept_count listed reached lines_of step_list pairs_of
    with_role some distinct passes preceding on_axis parent above ancestor root same_tree nearest gather
farms_parts = (refl, refl, refl, refl)
