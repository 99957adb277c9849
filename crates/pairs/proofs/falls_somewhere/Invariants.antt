-- `pairs::falls_somewhere` meets its contract: where nothing fell yet, the places below i are in order.
-- Assumes nothing.
use mathlib.Core.Path.{◌≡◌}
use mathlib.Core.Bool.{false}
use Rattle.pairs.proofs.PairLaws.{OrderedBelow}
use Rattle.pairs.proofs.falls_somewhere.Given as goal

abbrev pub invariant-loop-i : goal.invariant-loop-i
invariant-loop-i l = l.falls ≡ false → OrderedBelow l.role l.row l.i
