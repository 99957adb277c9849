-- `scan::number_rows` meets its contract. The invariant: the first i rows are appended.
-- Assumes nothing.
use mathlib.Core.Path.{refl}
use Prim.Native.Nat.{◌<◌}
use native.Mathlib.Omega.{arith}
use borrow.Author.Rules.{rules}
use lib.ListN.{length}
use Rattle.scan.proofs.ScanLaws.{scan_start, scan_length, scan_index, scan_yes}
use Rattle.scan.proofs.number_rows.Goals as goal
use Rattle.scan.proofs.number_rows.Goals.{In-loop-i}

pub loop-i-init : goal.loop-i-init
loop-i-init c = scan_start

-- there is room for the row
free : (c : In-loop-i) → c.loop-i.next < length c.loop-i.out
free c =
    let s = c in
    scan_index s.requires s.loop-i.invariant c.loop-i-test.true refl

pub offset_bounds-out-next : goal.offset_bounds-out-next
offset_bounds-out-next c =
    let p = free (goal.at.offset_bounds-out-next c).In-loop-i in
    let w = scan_length c.requires c.loop-i.invariant in
    search rules

pub bounds-out-next : goal.bounds-out-next
bounds-out-next c = free (goal.at.bounds-out-next c).In-loop-i

pub overflow_add-next : goal.overflow_add-next
overflow_add-next c =
    let p = free (goal.at.overflow_add-next c).In-loop-i in
    let w = scan_length c.requires c.loop-i.invariant in
    omega arith

pub loop-i-preserved : goal.loop-i-preserved
loop-i-preserved c = scan_yes c.requires c.loop-i.invariant c.loop-i-test.true refl refl refl
