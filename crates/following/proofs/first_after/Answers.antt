-- `following::first_after` meets its contract. The invariant: first is the least row after one of the contexts so far.
-- Assumes nothing.
use Rattle.scan.proofs.SideLaws.{after_none, after_more}
use Rattle.following.proofs.first_after.Goals as goal

pub loop-c-init : goal.loop-c-init
loop-c-init c = after_none _ _ _

pub loop-c-preserved : goal.loop-c-preserved
loop-c-preserved c = after_more _ _ _ c.loop-c.c-index c.loop-c.invariant c.min-first.ensures
