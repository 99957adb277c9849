-- `carry::carry` meets its contract: refused by a check, without room, or with the new list written. Assumes nothing.
use mathlib.Core.Path.{sym, ◌∙◌}
use native.Mathlib.Omega.{arith}
use mir.Syntax.{w64}
use mir.Facts.{to_z-of_z}
use Rattle.std.proofs.lemmas.Result.{err_from_is_err_and}
use Rattle.carry.proofs.CarryLeavesLaws.{leaves_refused, call_moves, leaves_full, call_ready, leaves_written}
use Rattle.carry.proofs.carry.Goals as goal

pub moved_to-to-requires : goal.moved_to-to-requires
moved_to-to-requires c =
    call_moves _ _ _ _ _ (sym c.check_call.ensures ∙ c.in_ok-check_call.was)

pub returns-then-short : goal.returns-then-short
returns-then-short c =
    let back = to_z-of_z {w = w64} c.ranges.moved in
    let e = rw back at (sym c.check_call.ensures ∙ c.in_ok-check_call.was) in
    let l = rw back at c.moved_to-to.ensures in
    leaves_full _ _ _ _ _ _ _ e _ _ l c.count_left-left.ensures
    (omega (arith, c.if-short.true))

pub write-requires : goal.write-requires
write-requires c =
    call_ready _ _ _ _ _ _ _ (sym c.check_call.ensures ∙ c.in_ok-check_call.was)
    _ _ c.moved_to-to.ensures c.count_left-left.ensures
    (omega (arith, c.if-short.false))

pub returns-in_err-check_call : goal.returns-in_err-check_call
returns-in_err-check_call c =
    let back = to_z-of_z {w = w64} c.ranges.moved in
    let p = err_from_is_err_and c.from_residual.result c.from_residual.ensures.1 in
    rw (p.1, p.2) (leaves_refused _ _ _ _ _ _ _ _
    (rw back at (sym c.check_call.ensures ∙ c.in_err-check_call.was)))

pub returns : goal.returns
returns c =
    let back = to_z-of_z {w = w64} c.ranges.moved in
    let e = rw back at (sym c.check_call.ensures ∙ c.in_ok-check_call.was) in
    let l = rw back at c.moved_to-to.ensures in
    leaves_written _ _ _ _ _ _ _ e _ _ l c.count_left-left.ensures
    (omega (arith, c.if-short.false))
    (rw back at c.write.ensures)
