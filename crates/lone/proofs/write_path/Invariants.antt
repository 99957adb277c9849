-- `lone::write_path` meets its contract. The loop's invariant, `PathLeft`: the rows of the path from `at` are to be
-- the first k results, and the rows below them are written. Assumes nothing.
use Rattle.lone.proofs.PathLaws.{PathLeft}
use Rattle.lone.proofs.write_path.Given as goal

abbrev pub invariant-loop-k : goal.invariant-loop-k
invariant-loop-k l = PathLeft l.trees l.link l.initial.out l.out l.at l.k
