-- `keys::Chains::row_in` meets its contract. The invariant: of the rows that the walk has passed, the row kept is the
-- least that has the key x; one before it is on the rest of the chain. Assumes nothing.
use Prim.Native.Nat.{◌≤◌, ◌<◌}
use mathlib.Core.Path.{◌≡◌}
use Rattle.tree.specs.Table.{at}
use Rattle.keys.proofs.KeyLaws.{Walk}
use Rattle.keys.proofs.Chains.row_in.Given as goal

abbrev pub invariant-loop-r : goal.invariant-loop-r
invariant-loop-r l =
    (l.row ≤ l.n) × (l.row < l.n → at l.key l.row ≡ l.x) × Walk l.self.shift l.key l.x l.row l.r

abbrev pub decreases-loop-r : goal.decreases-loop-r
decreases-loop-r l = l.r
