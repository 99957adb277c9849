-- `direct::earlier::is_rising` meets its contract. The loop's invariant: the parents of the contexts passed do not
-- fall, and the last of them is not before any. Assumes nothing.
use Prim.Native.Nat.{ℕ, ◌-◌, ◌<◌, ◌≤◌}
use mathlib.Core.Path.{◌≡◌}
use Rattle.tree.specs.Table.{at}
use Rattle.direct.proofs.earlier.is_rising.Given as goal

abbrev pub invariant-loop-c : goal.invariant-loop-c
invariant-loop-c l =
    ((i : ℕ) → i < l.c-index → (j : ℕ) → j < i → at l.up (at l.rows j) ≤ at l.up (at l.rows i))
    × ((j : ℕ) → j < l.c-index → at l.up (at l.rows j) ≤ l.last)
    × (0 < l.last → (0 < l.c-index) × (l.last ≡ at l.up (at l.rows (l.c-index - 1))))
