-- Room on the small farm, which has two spare rows. Two insertions of a leaf each, with different keys, fill its
-- columns exactly, and the conditions of demand 3 hold of them, `leaves_independent`; so either order leaves the same
-- rows in use, `leaves_same`. A key in both pieces, or a row more, is refused in either order: `key_refused`,
-- `third_refused`. An insertion gets the same answer where the shortest column is as long, `same_room`, and another
-- where it is shorter, `less_room`; a deletion and a renaming ask for no room: `no_room`. Assumes nothing.
use Prim.Native.Nat.{ℕ, zero, suc, ◌<◌}
use mathlib.Core.Path.{◌≡◌, refl}
use mathlib.Core.List.{[], ◌∷◌}
use native.Mathlib.Nat.{not-suc-le-zero, le_of_suc-le-suc}
use native.Mathlib.Omega.{arith}
use Rattle.tree.specs.Search.{least, some_below, nearest}
use Rattle.tree.specs.Table.{at, shortest, count_ok, SameRows}
use Rattle.tree.specs.Sound.{level_ok, run_of, size_of, size_ok, kind_ok, has_name, name_ok, row_of, key_ok}
use Rattle.tree.specs.Sound.{beside_key_ok, row_ok}
use Rattle.tree.specs.Sound.{first_bad}
use Rattle.tree.specs.Tree.{parent, above, ancestor, other_root}
use Rattle.tree.specs.Edit.{opened, changed, gap_of, inserted, insert_done}
use Rattle.tree.specs.Refusal.{given, given_at, next, table_check, key_check, bad_piece, insert_check}
use Rattle.tree.specs.Outcome.{edit_if, edit_check, insert_outcome}
use Rattle.tree.proofs.FarmCalls.{farm, leaf, leaf_of, twig}
use Rattle.tree.proofs.FarmSpare.{spared, same_farm}
use Rattle.after_edit.specs.Act.{insertion, deletion, renaming, outcome}
use Rattle.after_edit.specs.Independent.{Independent, in_turn}
use Rattle.after_edit.proofs.EitherOrder.{either_order}
use Rattle.after_edit.proofs.InUseLaws.{in_use_edit}
use Rattle.tree.specs.Number.{told}
use Rattle.std.specs.Prelude.{Ok, Err}

-- ── two insertions ──
-- the two leaves have different keys
apart : (i j : ℕ) → i < 1 → j < 1 → at (50 ∷ []) i ≡ at (51 ∷ []) j → ⊥
apart zero zero l m e = omega arith
apart zero (suc j) l m e = not-suc-le-zero (le_of_suc-le-suc m)
apart (suc i) j l m e = not-suc-le-zero (le_of_suc-le-suc l)

-- a leaf under the row of key 21 and another under that of key 31: 10 rows and 2 are the 12 that the columns have
pub leaves_independent : Independent (insertion 21 leaf) (insertion 31 (leaf_of 51)) farm
unfolding least some_below nearest shortest count_ok level_ok run_of size_of size_ok kind_ok has_name name_ok row_of
    key_ok beside_key_ok row_ok first_bad parent above ancestor other_root given given_at next table_check key_check
    bad_piece insert_check edit_if edit_check insert_outcome
leaves_independent = record {
  accepted_a = (insert_done farm 2 leaf, refl);
  accepted_b = (insert_done farm 7 (leaf_of 51), refl);
  rows_differ = λ e. omega arith;
  a_not_above = refl;
  b_not_above = refl;
  one_root = λ a b. b;
  keys_differ = apart;
  in_limit = omega arith;
  in_columns = omega arith;
}

-- either order leaves the same rows in use
pub leaves_same : SameRows (in_turn (insertion 21 leaf) (insertion 31 (leaf_of 51)) farm).table
    (in_turn (insertion 31 (leaf_of 51)) (insertion 21 leaf) farm).table
leaves_same = (either_order (insertion 21 leaf) (insertion 31 (leaf_of 51)) farm leaves_independent).2

-- the same key in both pieces: the second of the two is refused with 13
pub key_refused : (told (in_turn (insertion 21 leaf) (insertion 31 leaf) farm).answer ≡ Err (13, 0))
    × (told (in_turn (insertion 31 leaf) (insertion 21 leaf) farm).answer ≡ Err (13, 0))
unfolding least some_below nearest shortest count_ok level_ok run_of size_of size_ok kind_ok has_name name_ok row_of
    key_ok beside_key_ok row_ok first_bad parent above ancestor other_root given given_at next table_check key_check
    bad_piece insert_check edit_if edit_check insert_outcome opened changed gap_of inserted
key_refused = (refl, refl)

-- three rows in all, where there is room for two: the second of the two is refused with 14
pub third_refused : (told (in_turn (insertion 21 (leaf_of 60)) (insertion 31 twig) farm).answer ≡ Err (14, 0))
    × (told (in_turn (insertion 31 twig) (insertion 21 (leaf_of 60)) farm).answer ≡ Err (14, 0))
unfolding least some_below nearest shortest count_ok level_ok run_of size_of size_ok kind_ok has_name name_ok row_of
    key_ok beside_key_ok row_ok first_bad parent above ancestor other_root given given_at next table_check key_check
    bad_piece insert_check edit_if edit_check insert_outcome opened changed gap_of inserted
third_refused = (refl, refl)

-- ── the same rows in use, other spare rows ──
-- the shortest column is as long, the others are not, and no spare row is the same: the same answer
pub same_room : (outcome (insertion 31 leaf) farm).answer ≡ (outcome (insertion 31 leaf) (spared (1 ∷ 2 ∷ []))).answer
unfolding shortest
same_room = (in_use_edit farm (spared (1 ∷ 2 ∷ [])) (same_farm (1 ∷ 2 ∷ [])) (insertion 31 leaf) refl).0

-- one column has no room: another answer
pub less_room : ((outcome (insertion 31 leaf) farm).answer ≡ Ok (insert_done farm 7 leaf))
    × (told (outcome (insertion 31 leaf) (spared [])).answer ≡ Err (14, 0))
unfolding least some_below nearest shortest count_ok level_ok run_of size_of size_ok kind_ok has_name name_ok row_of
    key_ok beside_key_ok row_ok first_bad parent above ancestor other_root given given_at next table_check key_check
    bad_piece insert_check edit_if edit_check insert_outcome
less_room = (refl, refl)

-- a deletion and a renaming get the same answer without room
pub no_room : ((outcome (deletion 21) farm).answer ≡ (outcome (deletion 21) (spared [])).answer)
    × ((outcome (renaming 24 6) farm).answer ≡ (outcome (renaming 24 6) (spared [])).answer)
no_room = (
  (in_use_edit farm (spared []) (same_farm []) (deletion 21) tt).0,
  (in_use_edit farm (spared []) (same_farm []) (renaming 24 6) tt).0,
)
