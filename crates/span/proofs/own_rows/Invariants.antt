-- `span::own_rows` meets its contract. The invariant: the rows reached below pos are written, and the first i
-- contexts are below pos. Assumes nothing.
use Rattle.scan.specs.Want.{accepts}
use Rattle.span.proofs.SpanLaws.{Turning}
use Rattle.span.proofs.own_rows.Given as goal

abbrev pub invariant-loop-c : goal.invariant-loop-c
invariant-loop-c l =
    Turning 1 l.trees.level.now l.trees.count (accepts l.test)
    (λ c. c) l.rows l.initial.out l.out l.next l.pos l.c-index
