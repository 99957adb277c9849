-- `following::first_after` meets its contract. The invariant: first is the least row after one of the contexts so far.
-- Assumes nothing.
use mathlib.Core.Path.{◌≡◌}
use Rattle.scan.specs.Range.{first_after}
use Rattle.following.proofs.first_after.Given as goal

abbrev pub invariant-loop-c : goal.invariant-loop-c
invariant-loop-c l = l.first ≡ first_after l.size l.count l.rows l.c-index
