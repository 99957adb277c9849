-- `shift::mover::open_column` meets its contract. Assumes nothing.
use native.Mathlib.Omega.{arith}
use Rattle.shift.proofs.MoverLaws.{open_column_lem}
use Rattle.shift.proofs.mover.open_column.Goals as goal

pub returns : goal.returns
returns c =
    let a = c.args in
    open_column_lem a.gap a.n a.by a.piece.now a.column.now c.open_part.new.part
    (omega arith)
    c.open_part.ensures
