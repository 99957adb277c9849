-- `lone::lone_rows` meets its contract: a path on ancestor and ancestor-or-self, a range of one row on parent.
-- Assumes nothing.
use mathlib.Core.Path.{sym}
use native.Mathlib.Omega.{arith}
use Rattle.scan.proofs.WroteLaws.{wrote_as}
use Rattle.lone.proofs.LoneLaws.{lone_one, lone_selves_rows, lone_selves_asks}
use Rattle.lone.proofs.LoneLaws.{lone_above_rows, lone_above_asks}
use Rattle.lone.proofs.LoneLaws.{lone_parent_none, lone_parent_asks, lone_parent_done}
use Rattle.lone.proofs.lone_rows.Goals as goal

pub bounds-rows-0 : goal.bounds-rows-0
bounds-rows-0 c = omega (arith, lone_one c.requires)

pub write_path-requires : goal.write_path-requires
write_path-requires c = lone_above_asks c.requires c.in-6.is

pub returns-in-6 : goal.returns-in-6
returns-in-6 c = wrote_as (sym (lone_above_rows c.requires c.in-6.is)) c.write_path.ensures

pub write_path-requires-in-7 : goal.write_path-requires-in-7
write_path-requires-in-7 c = lone_selves_asks c.requires c.in-7.is

pub returns-in-7 : goal.returns-in-7
returns-in-7 c = wrote_as (sym (lone_selves_rows c.requires c.in-7.is)) c.write_path-in-7.ensures

pub returns-then-q-eq0 : goal.returns-then-q-eq0
returns-then-q-eq0 c = lone_parent_none c.requires (λ z. omega arith) (λ z. omega arith) c.if-q-eq0.true

pub emit_one-requires : goal.emit_one-requires
emit_one-requires c =
    let q = c.if-q-eq0.false in
    (omega arith, lone_parent_asks c.requires (λ z. omega arith) (λ z. omega arith) _ (omega arith))

pub returns-else-q-eq0 : goal.returns-else-q-eq0
returns-else-q-eq0 c =
    let q = c.if-q-eq0.false in
    lone_parent_done c.requires (λ z. omega arith) (λ z. omega arith) _ (omega arith) c.emit_one.ensures
