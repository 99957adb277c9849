-- The search for the least row whose key is bad. Assumes nothing.
use Rattle.std.specs.Prelude.{ℕ, not, List}
use Rattle.tree.specs.Search.{least}
use Rattle.tree.specs.Sound.{key_ok}

-- the least of the first n rows whose key is 0 or stands earlier, or n
unfoldable pub first_key : List ℕ → ℕ → ℕ
first_key key n = least (λ i. not (key_ok key i)) n
