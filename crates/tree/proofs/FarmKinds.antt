-- A farm with rows of each kind (`mixed`, FarmCalls.antt): every node test told from the others, every axis from a
-- deep row and beside a cousin, the kept count of each axis, and pairs whose row falls where the role rises. One table
-- of calls with what each gives, `cases`, and one theorem, `farm_of_kinds`. By the definitions no row passes a test
-- that does not exist, and none is on such an axis: `no_such_code`.
-- Assumes nothing.
use Prim.Native.Nat.{ℕ}
use mathlib.Core.Path.{◌≡◌, refl}
use mathlib.Core.List.{List, [], ◌∷◌, map}
use Rattle.tree.specs.Search.{least, nearest, gather}
use Rattle.tree.specs.Table.{at, shortest, count_ok}
use Rattle.tree.specs.Sound.{level_ok, run_of, size_of, size_ok, kind_ok, has_name, name_ok}
use Rattle.tree.specs.Sound.{row_of, key_ok, beside_key_ok, row_ok, first_bad}
use Rattle.tree.specs.Tree.{parent, above, ancestor, siblings, root, same_tree}
use Rattle.tree.specs.Axis.{axis_ok, following, preceding, on_axis}
use Rattle.tree.specs.Test.{test_ok, passes}
use Rattle.tree.specs.Pairs.{pairs_of, with_role, roles_of, rows_of, before, out_of_order, some, distinct}
use Rattle.tree.specs.Step.{listed, reached, lines_of, step_list}
use Rattle.tree.specs.Kept.{drops, remaining, kept_count}
use Rattle.tree.specs.Refusal.{given, given_at, next, table_check, pair_check, ask_check, room_check}
use Rattle.tree.specs.Outcome.{check_outcome, step_outcome, step_if, step_check, overwritten}
use Rattle.std.specs.Prelude.{Ok}
use Rattle.tree.proofs.FarmCalls.{mixed, mixed_step, tested, from_row, reaches, declines, lists, run, Case, Call}
use Rattle.tree.proofs.FarmCalls.Call.{check}
use Rattle.tree.proofs.FarmCalls.Gives.{checked}

-- the pairs of role 1 on rows 1, 2, 5 and 7
abbrev on_four : ℕ → Call
on_four a = mixed_step (1 ∷ 1 ∷ 1 ∷ 1 ∷ []) (1 ∷ 2 ∷ 5 ∷ 7 ∷ []) a 0 0

-- the calls, with what each gives
abbrev pub cases : List Case
cases =
    record { call = check mixed; gives = checked (Ok tt) } ∷
    -- tests 0 to 7: any node, the document too; elements by kind, then by a name that an instruction has too; text,
    -- comment; instructions by kind, then by a name that an element has too; the document
    record { call = tested 0 0; gives = reaches 1 (0 ∷ 1 ∷ 2 ∷ 3 ∷ 4 ∷ 5 ∷ 6 ∷ 7 ∷ 8 ∷ []) } ∷
    record { call = tested 1 0; gives = reaches 1 (1 ∷ 4 ∷ 7 ∷ 8 ∷ []) } ∷
    record { call = tested 2 4; gives = reaches 1 (1 ∷ 8 ∷ []) } ∷
    record { call = tested 2 9; gives = reaches 1 (4 ∷ 7 ∷ []) } ∷
    record { call = tested 3 0; gives = reaches 1 (2 ∷ []) } ∷
    record { call = tested 4 0; gives = reaches 1 (6 ∷ []) } ∷
    record { call = tested 5 0; gives = reaches 1 (3 ∷ 5 ∷ []) } ∷
    record { call = tested 6 4; gives = reaches 1 (3 ∷ []) } ∷
    record { call = tested 6 9; gives = reaches 1 (5 ∷ []) } ∷
    record { call = tested 7 0; gives = reaches 1 (0 ∷ []) } ∷
    -- a name with a test that has none; none with a test that needs one; no such test
    record { call = tested 0 4; gives = declines 7 0 } ∷
    record { call = tested 1 4; gives = declines 7 0 } ∷
    record { call = tested 2 0; gives = declines 7 0 } ∷
    record { call = tested 3 4; gives = declines 7 0 } ∷
    record { call = tested 4 4; gives = declines 7 0 } ∷
    record { call = tested 5 4; gives = declines 7 0 } ∷
    record { call = tested 6 0; gives = declines 7 0 } ∷
    record { call = tested 7 4; gives = declines 7 0 } ∷
    record { call = tested 8 0; gives = declines 7 0 } ∷
    -- each axis from row 5, of level 3: itself, nothing below, its one parent, all ancestors, what follows and precedes
    record { call = from_row 1 5; gives = reaches 1 (5 ∷ []) } ∷
    record { call = from_row 2 5; gives = reaches 1 [] } ∷
    record { call = from_row 3 5; gives = reaches 1 [] } ∷
    record { call = from_row 4 5; gives = reaches 1 (5 ∷ []) } ∷
    record { call = from_row 5 5; gives = reaches 1 (4 ∷ []) } ∷
    record { call = from_row 6 5; gives = reaches 1 (0 ∷ 1 ∷ 4 ∷ []) } ∷
    record { call = from_row 7 5; gives = reaches 1 (0 ∷ 1 ∷ 4 ∷ 5 ∷ []) } ∷
    record { call = from_row 8 5; gives = reaches 1 (6 ∷ 7 ∷ 8 ∷ []) } ∷
    record { call = from_row 9 5; gives = reaches 1 (2 ∷ 3 ∷ []) } ∷
    record { call = from_row 10 5; gives = reaches 1 [] } ∷
    record { call = from_row 11 5; gives = reaches 1 [] } ∷
    -- below row 1: children are not all descendants
    record { call = from_row 2 1; gives = reaches 1 (2 ∷ 3 ∷ 4 ∷ 6 ∷ []) } ∷
    record { call = from_row 3 1; gives = reaches 1 (2 ∷ 3 ∷ 4 ∷ 5 ∷ 6 ∷ []) } ∷
    record { call = from_row 4 1; gives = reaches 1 (1 ∷ 2 ∷ 3 ∷ 4 ∷ 5 ∷ 6 ∷ []) } ∷
    -- siblings on both sides; a cousin, of the same level under another parent, is none
    record { call = from_row 10 4; gives = reaches 1 (6 ∷ []) } ∷
    record { call = from_row 11 4; gives = reaches 1 (2 ∷ 3 ∷ []) } ∷
    record { call = from_row 10 6; gives = reaches 1 [] } ∷
    record { call = from_row 11 8; gives = reaches 1 [] } ∷
    record { call = from_row 10 1; gives = reaches 1 (7 ∷ []) } ∷
    record { call = from_row 11 7; gives = reaches 1 (1 ∷ []) } ∷
    -- row 0: no parent, no siblings, nothing follows or precedes
    record { call = from_row 5 0; gives = reaches 1 [] } ∷
    record { call = from_row 6 0; gives = reaches 1 [] } ∷
    record { call = from_row 8 0; gives = reaches 1 [] } ∷
    record { call = from_row 9 0; gives = reaches 1 [] } ∷
    record { call = from_row 10 0; gives = reaches 1 [] } ∷
    record { call = from_row 11 0; gives = reaches 1 [] } ∷
    -- the kept count of pairs on rows 1, 2, 5 and 7: on 3 and 4 rows 2 and 5 lie under row 1; on 6 and 7 row 1 lies
    -- over them; on 8 and 9 one remains; on the others all do
    record { call = on_four 1; gives = reaches 4 (1 ∷ 2 ∷ 5 ∷ 7 ∷ []) } ∷
    record { call = on_four 2; gives = reaches 4 (2 ∷ 3 ∷ 4 ∷ 6 ∷ 8 ∷ []) } ∷
    record { call = on_four 3; gives = reaches 2 (2 ∷ 3 ∷ 4 ∷ 5 ∷ 6 ∷ 8 ∷ []) } ∷
    record { call = on_four 4; gives = reaches 2 (1 ∷ 2 ∷ 3 ∷ 4 ∷ 5 ∷ 6 ∷ 7 ∷ 8 ∷ []) } ∷
    record { call = on_four 5; gives = reaches 4 (0 ∷ 1 ∷ 4 ∷ []) } ∷
    record { call = on_four 6; gives = reaches 3 (0 ∷ 1 ∷ 4 ∷ []) } ∷
    record { call = on_four 7; gives = reaches 3 (0 ∷ 1 ∷ 2 ∷ 4 ∷ 5 ∷ 7 ∷ []) } ∷
    record { call = on_four 8; gives = reaches 1 (3 ∷ 4 ∷ 5 ∷ 6 ∷ 7 ∷ 8 ∷ []) } ∷
    record { call = on_four 9; gives = reaches 1 (1 ∷ 2 ∷ 3 ∷ 4 ∷ 5 ∷ 6 ∷ []) } ∷
    record { call = on_four 10; gives = reaches 4 (3 ∷ 4 ∷ 6 ∷ 7 ∷ []) } ∷
    record { call = on_four 11; gives = reaches 4 (1 ∷ []) } ∷
    -- a row falls where the role rises: that is in order; another role's pair on an ancestor drops none
    record {
      call = mixed_step (1 ∷ 2 ∷ []) (5 ∷ 1 ∷ []) 3 0 0;
      gives = lists 2 4 (2 ∷ 2 ∷ 2 ∷ 2 ∷ 2 ∷ []) (2 ∷ 3 ∷ 4 ∷ 5 ∷ 6 ∷ []);
    } ∷
    record { call = mixed_step (1 ∷ 2 ∷ []) (5 ∷ 1 ∷ []) 6 5 0; gives = lists 2 9 [] [] } ∷
    record { call = mixed_step (2 ∷ 1 ∷ []) (1 ∷ 5 ∷ []) 3 0 0; gives = declines 4 1 } ∷
    record { call = mixed_step (1 ∷ 1 ∷ []) (5 ∷ 1 ∷ []) 3 0 0; gives = declines 4 1 } ∷
    []

-- each call gives what its case says
pub farm_of_kinds : map (λ c. run c.call) cases ≡ map (λ c. c.gives) cases
unfolding check_outcome step_outcome step_if step_check overwritten given given_at next table_check pair_check
    ask_check room_check drops remaining kept_count listed reached lines_of step_list pairs_of with_role roles_of
    rows_of before out_of_order some distinct test_ok passes axis_ok following preceding on_axis parent above ancestor
    siblings root same_tree level_ok run_of size_of size_ok kind_ok has_name name_ok row_of key_ok beside_key_ok
    row_ok first_bad shortest count_ok least nearest gather
farm_of_kinds = refl

-- a code that does not exist: no row passes the test, none is on the axis
pub no_such_code : (gather (λ w. passes 8 0 (at mixed.kind w) (at mixed.name w)) 9 ≡ [])
    × (gather (on_axis 0 mixed.level 5) 9 ≡ [])
    × (gather (on_axis 12 mixed.level 5) 9 ≡ [])
unfolding passes on_axis gather
no_such_code = (refl, refl, refl)
