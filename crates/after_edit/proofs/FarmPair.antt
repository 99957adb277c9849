-- The conditions of demand 3 hold of 01's own pair of edits, M9 and M10 on the small farm: `farm_independent`. So both
-- orders leave the same rows in use, which M11 lists: `farm_same`. With several farms in one table they hold of a
-- deletion of row 0's whole tree and an insertion into another: `farms_independent`, `farms_same`. Why two deletions of
-- roots are left out: of two trees each may go, but not both, `roots_refused`. Assumes nothing.
use mathlib.Core.Path.{◌≡◌, refl}
use mathlib.Core.List.{[], ◌∷◌}
use native.Mathlib.Nat.{not-suc-le-zero}
use native.Mathlib.Omega.{arith}
use Rattle.tree.specs.Search.{least, some_below, nearest}
use Rattle.tree.specs.Table.{Table, table_of, shortest, count_ok, SameRows}
use Rattle.tree.specs.Sound.{level_ok, run_of, size_of, size_ok, kind_ok, has_name, name_ok, row_of, key_ok}
use Rattle.tree.specs.Sound.{beside_key_ok, row_ok}
use Rattle.tree.specs.Sound.{first_bad}
use Rattle.tree.specs.Tree.{parent, above, ancestor, other_root}
use Rattle.tree.specs.Edit.{closed, changed, gap_of, deleted, insert_done, delete_done}
use Rattle.tree.specs.Refusal.{given, given_at, next, table_check, key_check, bad_piece, insert_check, delete_check}
use Rattle.tree.specs.Outcome.{edit_if, edit_check, insert_outcome, delete_outcome}
use Rattle.tree.proofs.FarmCalls.{farm, leaf}
use Rattle.tree.proofs.Farms.{farms}
use Rattle.after_edit.specs.Act.{insertion, deletion, outcome, Accepted}
use Rattle.after_edit.specs.Independent.{Independent, in_turn}
use Rattle.after_edit.proofs.EitherOrder.{either_order}
use Rattle.tree.specs.Number.{told}
use Rattle.std.specs.Prelude.{Err}

-- M9 deletes the row of key 21, M10 inserts a leaf under that of key 31
pub farm_independent : Independent (deletion 21) (insertion 31 leaf) farm
unfolding least some_below nearest shortest count_ok level_ok run_of size_of size_ok kind_ok has_name name_ok row_of
    key_ok beside_key_ok row_ok first_bad parent above ancestor other_root given given_at next table_check key_check
    bad_piece insert_check delete_check edit_if edit_check insert_outcome delete_outcome
farm_independent = record {
  accepted_a = (delete_done farm 2, refl);
  accepted_b = (insert_done farm 7 leaf, refl);
  rows_differ = λ e. omega arith;
  a_not_above = refl;
  b_not_above = refl;
  one_root = λ a b. b;
  keys_differ = λ i j l. absurd (not-suc-le-zero l);
  in_limit = omega arith;
  in_columns = omega arith;
}

-- either order leaves the same rows in use
pub farm_same : SameRows (in_turn (deletion 21) (insertion 31 leaf) farm).table
    (in_turn (insertion 31 leaf) (deletion 21) farm).table
farm_same = (either_order (deletion 21) (insertion 31 leaf) farm farm_independent).2

-- ── several farms ──
-- the first farm goes, and a leaf comes into the second
pub farms_independent : Independent (deletion 10) (insertion 21 leaf) farms
unfolding least some_below nearest shortest count_ok level_ok run_of size_of size_ok kind_ok has_name name_ok row_of
    key_ok beside_key_ok row_ok first_bad parent above ancestor other_root given given_at next table_check key_check
    bad_piece insert_check delete_check edit_if edit_check insert_outcome delete_outcome
farms_independent = record {
  accepted_a = (delete_done farms 0, refl);
  accepted_b = (insert_done farms 5 leaf, refl);
  rows_differ = λ e. omega arith;
  a_not_above = refl;
  b_not_above = refl;
  one_root = λ a b. b;
  keys_differ = λ i j l. absurd (not-suc-le-zero l);
  in_limit = omega arith;
  in_columns = omega arith;
}

-- either order leaves the same rows in use
pub farms_same : SameRows (in_turn (deletion 10) (insertion 21 leaf) farms).table
    (in_turn (insertion 21 leaf) (deletion 10) farms).table
farms_same = (either_order (deletion 10) (insertion 21 leaf) farms farms_independent).2

-- two trees of one row
abbrev two : Table
two = table_of (1 ∷ 2 ∷ []) (0 ∷ 0 ∷ []) (0 ∷ 0 ∷ []) (1 ∷ 1 ∷ []) (1 ∷ 1 ∷ []) 2

-- each root may be deleted, and after either the other is the only one
pub roots_refused : Accepted (outcome (deletion 1) two) × Accepted (outcome (deletion 2) two)
    × (told (in_turn (deletion 1) (deletion 2) two).answer ≡ Err (15, 0))
    × (told (in_turn (deletion 2) (deletion 1) two).answer ≡ Err (15, 0))
unfolding least some_below nearest shortest count_ok level_ok run_of size_of size_ok kind_ok has_name name_ok row_of
    key_ok beside_key_ok row_ok first_bad parent above ancestor other_root given given_at next table_check key_check
    bad_piece insert_check delete_check edit_if edit_check insert_outcome delete_outcome closed changed gap_of deleted
roots_refused = ((delete_done two 0, refl), (delete_done two 1, refl), refl, refl)
