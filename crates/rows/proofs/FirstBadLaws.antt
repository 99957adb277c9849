-- The search of a table that is not sound: `first_bad_min`, `first_key_le`. Assumes nothing.
use mathlib.Core.Path.{◌≡◌}
use mathlib.Core.List.{List}
use Prim.Native.Nat.{ℕ, ◌≤◌, min}
use Rattle.tree.specs.Table.{Table}
use Rattle.tree.specs.Sound.{row_ok, first_bad}
use Rattle.tree.proofs.SearchLaws.{least_le, least_both}
use Rattle.keys.specs.FirstKey.{first_key}
use Rattle.rows.specs.FirstBad.{first_bad_beside_key}

-- the least row that is not sound is the smaller of the two leasts
pub first_bad_min : (t : Table) → first_bad t ≡ min (first_bad_beside_key t) (first_key t.key t.count)
unfolding first_bad row_ok first_bad_beside_key first_key
first_bad_min t = least_both _ _ _

-- the search of the keys ends with the rows
pub first_key_le : (key : List ℕ) (n : ℕ) → first_key key n ≤ n
unfolding first_key
first_key_le key n = least_le _ n
