-- The least row that breaks a rule other than the key's, so that the keys have a search of their own. That the two make
-- 01's least unsound row is `first_bad_min` (proofs/FirstBadLaws.antt). Assumes nothing.
use Rattle.std.specs.Prelude.{ℕ, not}
use Rattle.tree.specs.Search.{least}
use Rattle.tree.specs.Table.{Table}
use Rattle.tree.specs.Sound.{beside_key_ok}

-- the least such row, or the count
unfoldable pub first_bad_beside_key : Table → ℕ
first_bad_beside_key t = least (λ i. not (beside_key_ok t i)) t.count
