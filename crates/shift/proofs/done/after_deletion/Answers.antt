-- `shift::done::after_deletion` meets its contract. Assumes nothing.
use mathlib.Core.Path.{ap}
use Prim.Native.Nat.{◌-◌}
use native.Mathlib.Omega.{arith}
use Rattle.shift.specs.Done.{answered}
use Rattle.shift.proofs.SignedMoveLaws.{back_is}
use Rattle.shift.proofs.done.after_deletion.Goals as goal

pub returns : goal.returns
returns c =
    ap (answered (c.args.count - c.args.by) c.args.first) (back_is c.args.by (omega arith))
