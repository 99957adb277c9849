-- `pairs_left::write_all` meets its contract: as `write_left`, with each pair at its own place. Assumes nothing.
use mathlib.Core.Path.{sym, ◌∙◌}
use native.Mathlib.Omega.{arith}
use mir.Syntax.{w64}
use mir.Facts.{to_z-of_z}
use Rattle.pairs_left.proofs.StayLaws.{each_stays}
use Rattle.pairs_left.proofs.WriteLaws.{writing_none, writing_reads, writing_more, writing_done}
use Rattle.pairs_left.proofs.write_all.Goals as goal

pub loop-i-init : goal.loop-i-init
loop-i-init c = writing_none _ _ _ _ _ _ c.requires.ready

pub loop-i-preserved : goal.loop-i-preserved
loop-i-preserved c =
    let pre = c.requires.ready in
    let test = c.loop-i-test.true in
    let back = to_z-of_z {w = w64} {z = c.args.edit.moved}
    (record { sfits = omega (arith, c.struct_told-1.given.1.1.0) }) in
    let l = writing_reads _ _ _ _ _ _ pre c.loop-i.invariant test in
    let stays = each_stays _ _ c.args.row.now (sym pre.many ∙ c.requires.left_value) c.loop-i.i
    (omega (arith, l, pre.pairs.even)) in
    rw stays at (writing_more _ _ _ _ _ _ pre c.loop-i.invariant _
    (rw back at c.row_after.ensures) test)

pub returns : goal.returns
returns c =
    writing_done _ _ _ _ _ _ c.requires.ready c.loop-i.invariant
    c.loop-i-test.false
