-- `shift::mover::clear` meets its contract. The first i rows are zero, the others stand as they stood. Assumes nothing.
use native.Mathlib.Omega.{arith}
use Rattle.shift.proofs.MoverLaws.{put_start, clear_turn, clear_end}
use Rattle.shift.proofs.mover.clear.Goals as goal

pub loop-i-init : goal.loop-i-init
loop-i-init c = put_start _ _

pub loop-i-preserved : goal.loop-i-preserved
loop-i-preserved c = clear_turn c.args.n c.loop-i.invariant c.loop-i-test.true (omega arith)

pub returns : goal.returns
returns c = clear_end c.args.n c.loop-i.invariant (omega arith) c.loop-i-test.false
