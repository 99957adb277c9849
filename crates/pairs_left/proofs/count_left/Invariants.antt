-- `pairs_left::count_left` meets its contract: the rows before place i that stay are counted. Assumes nothing.
use Prim.Native.Nat.{◌≤◌}
use mathlib.Core.Path.{◌≡◌}
use lib.ListN.{take}
use Rattle.pairs_left.specs.Left.{left_of}
use Rattle.pairs_left.proofs.count_left.Given as goal

abbrev pub invariant-loop-w : goal.invariant-loop-w
invariant-loop-w l = (l.left ≤ l.w-index) × (l.left ≡ left_of l.to l.first (take l.w-index l.row))
