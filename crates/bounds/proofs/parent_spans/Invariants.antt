-- `bounds::parent_spans` meets its contract. The invariant: the parents of the rows before place i are added up.
-- Assumes nothing.
use mathlib.Core.Path.{◌≡◌}
use lib.ListN.{take}
use Rattle.std.specs.List.{sum_by}
use Rattle.bounds.specs.Bounds.{parent_span}
use Rattle.bounds.proofs.parent_spans.Given as goal

abbrev pub invariant-loop-c : goal.invariant-loop-c
invariant-loop-c l = l.sum ≡ sum_by (parent_span l.trees.size.now l.up) (take l.c-index l.row)
