-- `shift::mover::open_column_raised` meets its contract. Assumes nothing.
use mathlib.Core.List.{map}
use Prim.Native.Nat.{◌+◌}
use native.Mathlib.Omega.{arith}
use Rattle.shift.proofs.MoverLaws.{open_column_lem}
use Rattle.shift.proofs.mover.open_column_raised.Goals as goal

pub returns : goal.returns
returns c =
    let a = c.args in
    open_column_lem a.gap a.n a.by (map (λ l. l + a.add) a.piece.now) a.column.now
    c.open_part_raised.new.part (omega arith) c.open_part_raised.ensures
