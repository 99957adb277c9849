-- The conditions of demand 3 hold of a pair of each kind that FarmPair.antt and FarmRoom.antt leave out: on one farm
-- of two deletions, of two renamings, of an insertion and a renaming, `farm_pairs_lem`; on several farms of the
-- deletion of a root beside each edit that is no deletion of a root, `farms_pairs`. Each edit is accepted, and b
-- after a; that there was room is then `needed` (NeededLaws.antt). Assumes nothing.
use Prim.Native.Nat.{ℕ}
use mathlib.Core.Path.{refl}
use native.Mathlib.Omega.{arith}
use lib.IntN.{ℤ, pos, negsuc}
use Rattle.tree.specs.Search.{least, some_below, nearest}
use Rattle.tree.specs.Table.{shortest, count_ok}
use Rattle.tree.specs.Sound.{level_ok, run_of, size_of, size_ok, kind_ok, has_name, name_ok, row_of, key_ok}
use Rattle.tree.specs.Sound.{beside_key_ok, row_ok}
use Rattle.tree.specs.Sound.{first_bad}
use Rattle.tree.specs.Tree.{parent, above, ancestor, other_root}
use Rattle.tree.specs.Edit.{opened, closed, changed, gap_of, inserted, deleted, renamed, minus}
use Rattle.tree.specs.Edit.{insert_done, delete_done, rename_done}
use Rattle.tree.specs.Refusal.{given, given_at, next, table_check, key_check, bad_piece, insert_check, delete_check}
use Rattle.tree.specs.Refusal.{rename_check}
use Rattle.tree.specs.Outcome.{edit_if, edit_check, insert_outcome, delete_outcome, rename_outcome}
use Rattle.tree.specs.declared.Done.{Done}
use Rattle.tree.proofs.FarmCalls.{farm, leaf}
use Rattle.tree.proofs.Farms.{farms}
use Rattle.after_edit.specs.Act.{insertion, deletion, renaming}
use Rattle.after_edit.specs.Independent.{Independent}
use Rattle.after_edit.proofs.NeededLaws.{needed}

-- the answer of an accepted edit
abbrev done : ℕ → ℕ → ℤ → Done
done n f d = record { count = n; first = f; moved = d }

-- two rows go; two get the same name; a leaf comes under one row, and another gets a name
pub farm_pairs_lem : Independent (deletion 21) (deletion 31) farm
    × Independent (renaming 22 6) (renaming 24 6) farm
    × Independent (insertion 31 leaf) (renaming 24 6) farm
unfolding least some_below nearest shortest count_ok level_ok run_of size_of size_ok kind_ok has_name name_ok row_of
    key_ok beside_key_ok row_ok first_bad parent above ancestor other_root given given_at next table_check key_check
    bad_piece insert_check delete_check rename_check edit_if edit_check insert_outcome delete_outcome rename_outcome
    opened closed changed gap_of inserted deleted renamed minus insert_done delete_done rename_done
farm_pairs_lem = (
  needed (deletion 21) (deletion 31) farm (done 8 4 (negsuc 1), refl) (done 8 9 (negsuc 1), refl)
      (λ e. omega arith) refl refl (λ a b. omega arith) (done 6 7 (negsuc 1), refl),
  needed (renaming 22 6) (renaming 24 6) farm (done 10 10 (pos 0), refl) (done 10 10 (pos 0), refl)
      (λ e. omega arith) refl refl (λ a b. b) (done 10 10 (pos 0), refl),
  needed (insertion 31 leaf) (renaming 24 6) farm (done 11 9 (pos 1), refl) (done 10 10 (pos 0), refl)
      (λ e. omega arith) refl refl (λ a b. b) (done 11 11 (pos 0), refl),
)

-- the first root goes, and a row of another tree; and a leaf comes under another root; and another root gets a name
pub farms_pairs : Independent (deletion 10) (deletion 21) farms
    × Independent (deletion 10) (insertion 30 leaf) farms
    × Independent (deletion 10) (renaming 30 6) farms
unfolding least some_below nearest shortest count_ok level_ok run_of size_of size_ok kind_ok has_name name_ok row_of
    key_ok beside_key_ok row_ok first_bad parent above ancestor other_root given given_at next table_check key_check
    bad_piece insert_check delete_check rename_check edit_if edit_check insert_outcome delete_outcome rename_outcome
    opened closed changed gap_of inserted deleted renamed minus insert_done delete_done rename_done
farms_pairs = (
  needed (deletion 10) (deletion 21) farms (done 4 4 (negsuc 3), refl) (done 7 6 (negsuc 0), refl)
      (λ e. omega arith) refl refl (λ a b. omega arith) (done 3 2 (negsuc 0), refl),
  needed (deletion 10) (insertion 30 leaf) farms (done 4 4 (negsuc 3), refl) (done 9 8 (pos 1), refl)
      (λ e. omega arith) refl refl (λ a b. b) (done 5 4 (pos 1), refl),
  needed (deletion 10) (renaming 30 6) farms (done 4 4 (negsuc 3), refl) (done 8 8 (pos 0), refl)
      (λ e. omega arith) refl refl (λ a b. b) (done 4 4 (pos 0), refl),
)
