-- `runs::fill` meets its contract. The first i places hold v. Assumes nothing.
use mathlib.Core.Path.{◌≡◌}
use lib.ListN.{length, replicate}
use Rattle.scan.specs.OneRole.{Wrote}
use Rattle.runs.proofs.fill.Given as goal

abbrev pub invariant-loop-i : goal.invariant-loop-i
invariant-loop-i l = (length l.part ≡ length l.initial.part) × Wrote (replicate l.i l.v) l.initial.part l.i l.part
