-- `pairs_left::write_all` meets its contract: as `write_left`, with each pair at its own place. Assumes nothing.
use Rattle.pairs_left.specs.Left.{Writing}
use Rattle.pairs_left.proofs.write_all.Given as goal

abbrev pub invariant-loop-i : goal.invariant-loop-i
invariant-loop-i l =
    Writing l.role l.row l.edit l.left l.initial.out_role l.initial.out_row l.out_role l.out_row l.i l.i
