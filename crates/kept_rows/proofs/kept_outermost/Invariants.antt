-- `kept_rows::kept_outermost` meets its contract. The invariant: the rows kept below pos are counted, and the first i
-- contexts and their descendants lie before pos. Assumes nothing.
use Rattle.kept_rows.proofs.KeptOuterLaws.{Outer}
use Rattle.kept_rows.proofs.kept_outermost.Given as goal

abbrev pub invariant-loop-c : goal.invariant-loop-c
invariant-loop-c l = Outer l.trees l.rows l.kept l.pos l.c-index
