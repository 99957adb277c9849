-- `located::parent_of` meets its contract. The invariant: behind row i no row has the parent's level. Assumes nothing.
use mathlib.Core.Path.{◌≡◌}
use Prim.Native.Nat.{ℕ, ◌+◌, ◌≤◌, ◌<◌}
use Rattle.tree.specs.Table.{at}
use Rattle.located.proofs.parent_of.Given as goal

abbrev pub invariant-loop-i : goal.invariant-loop-i
invariant-loop-i l = (l.i < l.row) × ((j : ℕ) → l.i + 1 ≤ j → j < l.row → at l.level j ≡ l.up → ⊥)

abbrev pub decreases-loop-i : goal.decreases-loop-i
decreases-loop-i l = l.i
