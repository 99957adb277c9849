-- `ways::climb` meets its contract. The loop's invariant, `Climbed`: the rows met are appended, and the others
-- are those of the way up from `link`. Assumes nothing.
use Rattle.ways.proofs.ClimbLaws.{Climbed}
use Rattle.ways.proofs.climb.Given as goal

abbrev pub invariant-loop-link : goal.invariant-loop-link
invariant-loop-link l =
    Climbed l.trees l.test l.floor l.start l.initial.out l.written l.out l.next l.link

abbrev pub decreases-loop-link : goal.decreases-loop-link
decreases-loop-link l = l.link
