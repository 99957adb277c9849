-- `shift::mover::close_column` meets its contract: later rows move up, then the freed rows are filled with zeros.
-- Assumes nothing.
use native.Mathlib.Omega.{arith}
use Rattle.shift.proofs.MoverLaws.{moved_up, clear_column_lem, pulled_cleared}
use Rattle.shift.proofs.mover.close_column.Goals as goal

pub returns : goal.returns
returns c =
    let a = c.args in
    pulled_cleared a.row a.n a.by a.column.now _ _ (omega arith) (omega arith)
    (moved_up a.row a.n a.by a.column.now c.copy_within.new.self (omega arith) c.copy_within.ensures.after)
    (clear_column_lem _ _ _ c.clear.new.part (omega arith) c.clear.ensures)
