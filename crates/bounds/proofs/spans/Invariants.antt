-- `bounds::spans` meets its contract. The invariant: the rows before place i are added up. Assumes nothing.
use mathlib.Core.Path.{◌≡◌}
use lib.ListN.{take}
use Rattle.std.specs.List.{sum_by}
use Rattle.bounds.specs.Bounds.{span_of}
use Rattle.bounds.proofs.spans.Given as goal

abbrev pub invariant-loop-c : goal.invariant-loop-c
invariant-loop-c l = l.sum ≡ sum_by (span_of l.trees.size.now) (take l.c-index l.row)
