-- The search for the least row of a piece whose key is taken. Assumes nothing.
use Rattle.std.specs.Prelude.{ℕ, List, ltb}
use Rattle.tree.specs.Search.{least}
use Rattle.tree.specs.Table.{at}
use Rattle.tree.specs.Sound.{row_of}

-- the least of the first m rows of a piece whose key one of the first n rows has, or m
abbrev pub first_clash : List ℕ → ℕ → List ℕ → ℕ → ℕ
first_clash key n piece m = least (λ i. ltb (row_of key n (at piece i)) n) m
