-- `span::rows_below` meets its contract. The invariant: the rows reached below pos are written, and the rows
-- of the first i contexts are below pos. Assumes nothing.
use Prim.Native.Nat.{◌+◌, ◌-◌}
use Rattle.tree.specs.Table.{at}
use Rattle.scan.specs.Want.{accepts}
use Rattle.span.proofs.SpanLaws.{Turning}
use Rattle.span.proofs.rows_below.Given as goal

abbrev pub invariant-loop-c : goal.invariant-loop-c
invariant-loop-c l =
    Turning (4 - l.first) l.trees.level.now l.trees.count (accepts l.test) (λ c. c + at l.trees.size.now c) l.rows
    l.initial.out l.out l.next l.pos l.c-index
