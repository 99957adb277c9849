-- The answer of an accepted edit, put together. Assumes nothing.
use Rattle.std.specs.Prelude.{ℕ, ℤ}
use Rattle.tree.specs.declared.Done.{Done}

-- the new count, the first moved row and its move
abbrev pub answered : ℕ → ℕ → ℤ → Done
answered n first moved = record { count = n; first = first; moved = moved }
