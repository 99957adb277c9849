-- `piece::too_deep` meets its contract: no level before the one looked at is too deep. Assumes nothing.
use Prim.Native.Nat.{ℕ, ◌+◌, ◌<◌}
use mathlib.Core.Path.{◌≡◌}
use mathlib.Core.Bool.{false}
use lib.Dec.{ltb}
use Rattle.tree.specs.Table.{at}
use Rattle.piece.proofs.too_deep.Given as goal

abbrev pub invariant-loop-own : goal.invariant-loop-own
invariant-loop-own l = (j : ℕ) → j < l.own-index → ltb 63 (at l.level j + l.add) ≡ false
