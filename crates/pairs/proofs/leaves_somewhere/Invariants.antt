-- `pairs::leaves_somewhere` meets its contract: where none was outside yet, the rows below place i are inside.
-- Assumes nothing.
use Prim.Native.Nat.{ℕ, ◌<◌}
use mathlib.Core.Path.{◌≡◌}
use mathlib.Core.Bool.{false}
use Rattle.tree.specs.Table.{at}
use Rattle.pairs.proofs.leaves_somewhere.Given as goal

abbrev pub invariant-loop-v : goal.invariant-loop-v
invariant-loop-v l = l.outside ≡ false → (k : ℕ) → k < l.v-index → at l.row k < l.count
