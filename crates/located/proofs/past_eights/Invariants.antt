-- `located::past_eights` meets its contract: from row i on, up to the row asked for, no row has the level. Assumes
-- nothing.
use Prim.Native.Nat.{ℕ, ◌≤◌, ◌<◌}
use mathlib.Core.Path.{◌≡◌}
use Rattle.tree.specs.Table.{at}
use Rattle.located.proofs.past_eights.Given as goal

abbrev pub invariant-loop-i : goal.invariant-loop-i
invariant-loop-i l = (l.i ≤ l.row) × ((j : ℕ) → l.i ≤ j → j < l.row → at l.level j ≡ l.up → ⊥)

abbrev pub decreases-loop-i : goal.decreases-loop-i
decreases-loop-i l = l.i
