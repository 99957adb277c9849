-- `direct::earlier::rising_rows` meets its contract. The invariant, `Risen`: the rows reached below the floor, which is
-- the last context passed, are written. Assumes nothing.
use Rattle.direct.proofs.RisingLaws.{Risen}
use Rattle.direct.proofs.earlier.rising_rows.Given as goal

abbrev pub invariant-loop-c : goal.invariant-loop-c
invariant-loop-c l =
    Risen l.trees l.test l.rows l.initial.out l.out l.next l.floor l.c-index
