-- Spare rows on the small farm: RULES 01, "The table". The farm with other spare rows, and in the key column any or
-- none, has the same rows in use, `same_farm`. So checking it, finding a key and a step answer what they answer on the
-- farm: `same_check`, `same_find`, `same_step`. For edits: after_edit/proofs/FarmRoom.antt. Assumes nothing.
use Prim.Native.Nat.{ℕ}
use mathlib.Core.Path.{◌≡◌, refl}
use mathlib.Core.List.{List, [], ◌∷◌, ◌++◌}
use lib.ListN.{take}
use Rattle.tree.specs.Table.{Table, table_of, SameRows}
use Rattle.tree.specs.Step.{Ask}
use Rattle.tree.specs.Outcome.{check_outcome, find_outcome, step_outcome}
use Rattle.tree.proofs.FarmCalls.{farm}
use Rattle.tree.proofs.RowsInUse.{in_use_check, in_use_find, in_use_step}

-- the farm with spare rows of its own: in the key column these, in the others a row more than the farm has
abbrev pub spared : List ℕ → Table
spared keys =
    table_of
    (take 10 farm.key ++ keys)
    (take 10 farm.size ++ (1 ∷ 2 ∷ 3 ∷ []))
    (take 10 farm.level ++ (4 ∷ 5 ∷ 6 ∷ []))
    (take 10 farm.kind ++ (7 ∷ 8 ∷ 9 ∷ []))
    (take 10 farm.name ++ (1 ∷ 2 ∷ 3 ∷ []))
    10

module _ (keys : List ℕ) where
  -- its rows in use are the farm's
  pub same_farm : SameRows farm (spared keys)
  same_farm = record { count = refl; key = refl; size = refl; level = refl; kind = refl; name = refl }

  -- the same answers
  pub same_check : check_outcome farm ≡ check_outcome (spared keys)
  same_check = in_use_check farm (spared keys) same_farm

  pub same_find : (k : ℕ) → find_outcome farm k ≡ find_outcome (spared keys) k
  same_find k = in_use_find farm (spared keys) same_farm k

  pub same_step : (role row : List ℕ) (a : Ask) (outRole outRow : List ℕ)
      → step_outcome farm role row a outRole outRow ≡ step_outcome (spared keys) role row a outRole outRow
  same_step role row a outRole outRow = in_use_step farm (spared keys) same_farm role row a outRole outRow
