-- `ways::rows_above` meets its contract. The invariant, `Ascent`: the rows reached below the floor are
-- written, the rows of the first contexts are below it, and it is not past the others. Assumes nothing.
use Rattle.ways.proofs.AboveLaws.{Ascent}
use Rattle.ways.proofs.rows_above.Given as goal

abbrev pub invariant-loop-c : goal.invariant-loop-c
invariant-loop-c l =
    Ascent l.own l.trees l.test l.rows l.initial.out l.out l.next l.floor l.c-index
