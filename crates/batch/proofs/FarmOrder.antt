-- Three changes of the small farm that may be made in any order: key 21 goes with its descendant, key 31 gets another
-- name, key 40 goes. They are pairwise independent, `farm_pairwise`. So the public call ends alike on the list and on
-- the list turned round, with all three done: `farm_turned`. Assumes nothing.
use mathlib.Core.Path.{◌≡◌, refl}
use mathlib.Core.List.{List, [], ◌∷◌}
use Prim.Native.Nat.{ℕ}
use native.Mathlib.Nat.{not-suc-le-zero}
use native.Mathlib.Omega.{arith}
use Rattle.tree.specs.Search.{least, some_below, nearest}
use Rattle.tree.specs.Table.{shortest, count_ok}
use Rattle.tree.specs.Sound.{level_ok, run_of, size_of, size_ok, kind_ok, has_name, name_ok, row_of, key_ok}
use Rattle.tree.specs.Sound.{beside_key_ok, row_ok}
use Rattle.tree.specs.Sound.{first_bad}
use Rattle.tree.specs.Tree.{parent, above, ancestor, other_root}
use Rattle.tree.specs.Edit.{delete_done, rename_done}
use Rattle.tree.specs.Refusal.{given, given_at, next, table_check, key_check, delete_check, rename_check, passed}
use Rattle.tree.specs.Outcome.{edit_if, edit_check, delete_outcome, rename_outcome}
use Rattle.tree.specs.Batch.{items_of, item_outcome, list_check, batch_check, batch_outcome}
use Rattle.tree.proofs.FarmCalls.{farm}
use Rattle.after_edit.specs.Act.{deletion, renaming}
use Rattle.after_edit.specs.Independent.{Independent}
use Rattle.batch.specs.Order.{EndAlike, Pairwise, Reordered, exchanged, later, twice}
use Rattle.batch.proofs.AnyOrder.{batch_any_order}

-- the three, as columns
abbrev pub codes : List ℕ
codes = 1 ∷ 2 ∷ 1 ∷ []

abbrev pub keys : List ℕ
keys = 21 ∷ 31 ∷ 40 ∷ []

abbrev pub names : List ℕ
names = 0 ∷ 5 ∷ 0 ∷ []

-- and turned round
abbrev pub keys_turned : List ℕ
keys_turned = 40 ∷ 31 ∷ 21 ∷ []

-- any two of them are independent
pub farm_pairwise : Pairwise (items_of codes keys names) farm
unfolding least some_below nearest shortest count_ok level_ok run_of size_of size_ok kind_ok has_name name_ok row_of
    key_ok beside_key_ok row_ok first_bad parent above ancestor other_root given given_at next table_check key_check
    delete_check rename_check edit_if edit_check delete_outcome rename_outcome items_of item_outcome
farm_pairwise = (
  (delete_done farm 2, refl),
  (first, (second, tt)),
  ((rename_done farm, refl), (third, tt), ((delete_done farm 9, refl), tt, tt)),
)
  where
    first : Independent (deletion 21) (renaming 31 5) farm
    first = record {
      accepted_a = (delete_done farm 2, refl);
      accepted_b = (rename_done farm, refl);
      rows_differ = λ e. omega arith;
      a_not_above = refl;
      b_not_above = refl;
      one_root = λ a b. b;
      keys_differ = λ i j l. absurd (not-suc-le-zero l);
      in_limit = omega arith;
      in_columns = omega arith;
    }

    second : Independent (deletion 21) (deletion 40) farm
    second = record {
      accepted_a = (delete_done farm 2, refl);
      accepted_b = (delete_done farm 9, refl);
      rows_differ = λ e. omega arith;
      a_not_above = refl;
      b_not_above = refl;
      one_root = λ a b. omega arith;
      keys_differ = λ i j l. absurd (not-suc-le-zero l);
      in_limit = omega arith;
      in_columns = omega arith;
    }

    third : Independent (renaming 31 5) (deletion 40) farm
    third = record {
      accepted_a = (rename_done farm, refl);
      accepted_b = (delete_done farm 9, refl);
      rows_differ = λ e. omega arith;
      a_not_above = refl;
      b_not_above = refl;
      one_root = λ a b. a;
      keys_differ = λ i j l. absurd (not-suc-le-zero l);
      in_limit = omega arith;
      in_columns = omega arith;
    }

-- the check passes, either way round
passes : (batch_check farm codes keys names ≡ passed) × (batch_check farm codes keys_turned names ≡ passed)
unfolding least some_below nearest shortest count_ok level_ok run_of size_of size_ok kind_ok has_name name_ok row_of
    key_ok beside_key_ok row_ok first_bad given given_at next table_check list_check batch_check
passes = (refl, refl)

-- the one list is the other turned round
turned : Reordered (items_of codes keys names) (items_of codes keys_turned names)
unfolding items_of
turned = twice exchanged (twice (later exchanged) exchanged)

-- so the call ends alike on both, with all three done
pub farm_turned : ((batch_outcome farm codes keys names).answer.end ≡ passed)
    × EndAlike (batch_outcome farm codes keys names) (batch_outcome farm codes keys_turned names)
farm_turned =
    batch_any_order farm codes keys names codes keys_turned names passes.0 passes.1 turned farm_pairwise
