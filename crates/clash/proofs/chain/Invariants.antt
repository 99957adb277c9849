-- `clash::chain` meets its contract: the first i rows are chained, with room for as many as before. Assumes nothing.
use mathlib.Core.Path.{◌≡◌}
use lib.ListN.{length}
use Rattle.keys.specs.Chain.{Chained}
use Rattle.clash.proofs.chain.Given as goal

abbrev pub invariant-loop-i : goal.invariant-loop-i
invariant-loop-i l =
    (length l.chains.next.now ≡ length l.initial.chains.next.now)
    × Chained l.chains.shift l.key l.chains.heads.now l.chains.next.now l.i
