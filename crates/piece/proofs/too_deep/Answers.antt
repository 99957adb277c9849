-- `piece::too_deep` meets its contract: no level before the one looked at is too deep. Assumes nothing.
use Prim.Native.Nat.{◌<◌}
use lib.Seq.{length-take-le}
use native.Mathlib.Omega.{arith}
use borrow.Author.Tests.{lt-ltb}
use Rattle.std.proofs.lemmas.List.{get_or-take}
use Rattle.piece.proofs.PieceLaws.{some_at, some_none}
use Rattle.piece.proofs.too_deep.Goals as goal

pub returns-then-above : goal.returns-then-above
returns-then-above c =
    let i : c.loop-own.own-index < c.args.n = omega (arith, length-take-le _ _ c.requires.n_in_bounds) in
    some_at _ _ _ i (rw (← get_or-take _ c.args.level.now _ 0 i) (lt-ltb _ _ c.if-above.true))

pub returns : goal.returns
returns c =
    let all = length-take-le _ _ c.requires.n_in_bounds in
    some_none _ _ c.args.n (omega (arith, all)) (λ j l. c.loop-own.invariant j (omega (arith, all)))
