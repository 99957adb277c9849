-- `shift::mover::open_part` meets its contract. The first i rows are those of the piece, the others stand where they
-- were moved to. Assumes nothing.
use mathlib.Core.Path.{refl, ◌∙◌}
use native.Mathlib.Omega.{arith}
use Rattle.shift.proofs.MoverLaws.{put_start, put_turn, put_end, moved_down, open_part_lem}
use Rattle.shift.proofs.mover.open_part.Goals as goal

pub loop-i-init : goal.loop-i-init
loop-i-init c = put_start _ _

pub loop-i-preserved : goal.loop-i-preserved
loop-i-preserved c = put_turn c.loop-i.invariant (omega arith) (omega (arith, c.copy_within.ensures.len)) refl

pub returns : goal.returns
returns c =
    let a = c.args in
    open_part_lem a.n a.by a.piece.now a.part.now _ _ (omega arith)
    (c.copy_within.ensures.after ∙ moved_down a.n a.by a.part.now)
    (put_end a.by c.loop-i.invariant (omega arith) c.loop-i-test.false)
