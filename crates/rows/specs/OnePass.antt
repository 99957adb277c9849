-- Where a row may stand while the levels are followed. No contract of an entry point cites it. Assumes nothing.
use Rattle.std.specs.Prelude.{Bool, ◌&&◌, List, ℕ, ◌+◌, ◌-◌, leb, ltb}
use Rattle.tree.specs.Table.{at}

-- A row of level own, with held rows below it, may stand at i. `most` is one more than the level of the row before.
-- `ends` has at l the row before which a row of level l has to end: the count at 0, and at l + 1 the end of the last
-- row of level l.
unfoldable pub fits_in : List ℕ → ℕ → ℕ → ℕ → ℕ → Bool
fits_in ends most i own held =
    (leb own most && leb own 63) && (ltb held (at ends own - i) && leb (at ends (own + 1)) i)
