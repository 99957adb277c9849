-- The theorems on carrying are not empty: pairs of the small farm over M9 and M10, in either order, are carried to the
-- same list, `farm_order`, which is (5,1), (7,4), (7,8), `farm_carried`. Over a deletion and an insertion that brings
-- the key back the grant is gone, `farm_back`. Over the deletion of row 0's tree the pairs of the other farms move to
-- the front, `farms_carried`, where their keys are, `farms_refound`. Assumes nothing.
use mathlib.Core.Path.{◌≡◌, refl}
use mathlib.Core.Logic.{inl, inr}
use mathlib.Core.List.{List, [], ◌∷◌}
use native.Mathlib.Omega.{arith}
use lib.IntN.{pos, negsuc}
use Rattle.tree.specs.Search.{least, some_below, nearest}
use Rattle.tree.specs.Table.{Table, table_of, shortest, count_ok}
use Rattle.tree.specs.Sound.{level_ok, run_of, size_of, size_ok, kind_ok, has_name, name_ok, row_of, key_ok}
use Rattle.tree.specs.Sound.{beside_key_ok, row_ok}
use Rattle.tree.specs.Sound.{first_bad}
use Rattle.tree.specs.Tree.{parent, above, ancestor, other_root}
use Rattle.tree.specs.Pairs.{Pair, pair}
use Rattle.tree.specs.Edit.{opened, closed, changed, gap_of, inserted, deleted, minus, insert_done, delete_done}
use Rattle.tree.specs.Refusal.{given, given_at, next, table_check, key_check, bad_piece, insert_check, delete_check}
use Rattle.tree.specs.Outcome.{edit_if, edit_check, insert_outcome, delete_outcome}
use Rattle.tree.specs.Carry.{was_deleted, carried_by, carried}
use Rattle.tree.specs.declared.Done.{Done}
use Rattle.tree.proofs.FarmCalls.{farm, leaf}
use Rattle.tree.proofs.Farms.{farms}
use Rattle.after_edit.specs.Act.{deletion, insertion, outcome}
use Rattle.after_edit.specs.Independent.{in_turn}
use Rattle.after_edit.proofs.FarmPair.{farm_independent}
use Rattle.carry.specs.Refound.{refound}
use Rattle.carry.proofs.GrantLaws.{Inside, carry_refinds}
use Rattle.carry.proofs.CarryBothLaws.{carry_either_order}

-- role 5 holds the first turbine and one of its blades, role 7 the second turbine and the comment
abbrev held : List Pair
held = pair 5 1 ∷ pair 5 2 ∷ pair 7 6 ∷ pair 7 9 ∷ []

held_inside : Inside farm held
held_inside q (inl e) = rw e (omega arith)
held_inside q (inr (inl e)) = rw e (omega arith)
held_inside q (inr (inr (inl e))) = rw e (omega arith)
held_inside q (inr (inr (inr (inl e)))) = rw e (omega arith)
held_inside q (inr (inr (inr (inr e)))) = absurd e

-- what M9 and M10 answer on the farm, and each after the other
abbrev deletes : Done
deletes = record { count = 8; first = 4; moved = negsuc 1 }

abbrev inserts : Done
inserts = record { count = 11; first = 9; moved = pos 1 }

abbrev then_inserts : Done
then_inserts = record { count = 9; first = 7; moved = pos 1 }

abbrev then_deletes : Done
then_deletes = record { count = 9; first = 4; moved = negsuc 1 }

-- either order carries the pairs to the same list
pub farm_order : carried 7 (pos 1) (carried 4 (negsuc 1) held) ≡ carried 4 (negsuc 1) (carried 9 (pos 1) held)
unfolding least some_below nearest shortest count_ok level_ok run_of size_of size_ok kind_ok has_name name_ok row_of
    key_ok beside_key_ok row_ok first_bad parent above ancestor other_root given given_at next table_check key_check
    bad_piece insert_check delete_check edit_if edit_check insert_outcome delete_outcome opened closed changed gap_of
    inserted deleted minus insert_done delete_done
farm_order =
    carry_either_order (deletion 21) (insertion 31 leaf) farm farm_independent held held_inside
    deletes then_inserts inserts then_deletes refl refl refl refl

-- namely to this one
pub farm_carried : carried 7 (pos 1) (carried 4 (negsuc 1) held) ≡ pair 5 1 ∷ pair 7 4 ∷ pair 7 8 ∷ []
unfolding carried carried_by was_deleted
farm_carried = refl

-- a blade under a key that was deleted before
abbrev blade : Table
blade = table_of (21 ∷ []) (0 ∷ []) (0 ∷ []) (1 ∷ []) (3 ∷ []) 1

-- where M9 deletes key 21 and the next edit brings it back, the grant is gone, though the last table has the key
pub farm_back : (carried 4 (pos 1) (carried 4 (negsuc 1) (pair 5 2 ∷ [])) ≡ [])
    × (refound farm (in_turn (deletion 21) (insertion 20 blade) farm).table (pair 5 2 ∷ []) ≡ pair 5 4 ∷ [])
unfolding least some_below nearest shortest count_ok level_ok run_of size_of size_ok kind_ok has_name name_ok row_of
    key_ok beside_key_ok row_ok first_bad parent above ancestor other_root given given_at next table_check key_check
    bad_piece insert_check delete_check edit_if edit_check insert_outcome delete_outcome opened closed changed gap_of
    inserted deleted minus insert_done delete_done carried carried_by was_deleted refound
farm_back = (refl, refl)

-- ── several farms ──
-- role 5 holds rows of the first two farms, role 7 the third
abbrev spread : List Pair
spread = pair 5 2 ∷ pair 5 6 ∷ pair 7 7 ∷ []

spread_inside : Inside farms spread
spread_inside q (inl e) = rw e (omega arith)
spread_inside q (inr (inl e)) = rw e (omega arith)
spread_inside q (inr (inr (inl e))) = rw e (omega arith)
spread_inside q (inr (inr (inr e))) = absurd e

-- what the deletion of the first farm answers
abbrev takes_first : Done
takes_first = record { count = 4; first = 4; moved = negsuc 3 }

-- its grant goes, and the others come to the front
pub farms_carried : carried 4 (negsuc 3) spread ≡ pair 5 2 ∷ pair 7 3 ∷ []
unfolding carried carried_by was_deleted
farms_carried = refl

-- as their keys do
pub farms_refound : carried 4 (negsuc 3) spread ≡ refound farms (outcome (deletion 10) farms).table spread
unfolding least some_below nearest shortest count_ok level_ok run_of size_of size_ok kind_ok has_name name_ok row_of
    key_ok beside_key_ok row_ok first_bad parent above ancestor other_root given given_at next table_check key_check
    delete_check edit_if edit_check delete_outcome minus delete_done gap_of
farms_refound = carry_refinds (deletion 10) farms takes_first refl spread spread_inside
