-- `sizes::resize_up` meets its contract. The invariant: row i and those above it are still to be changed. Assumes
-- nothing.
use Rattle.sizes.proofs.UpLaws.{Going}
use Rattle.sizes.proofs.resize_up.Given as goal

abbrev pub invariant-loop-up : goal.invariant-loop-up
invariant-loop-up l = Going l.level l.count l.initial.size l.row l.more l.less l.size l.i l.up
