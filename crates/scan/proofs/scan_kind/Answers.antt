-- `scan::scan_kind` meets its contract. The invariant: the first i rows that pass are appended.
-- Assumes nothing.
use mathlib.Core.Path.{◌≡◌}
use Prim.Native.Nat.{◌<◌}
use native.Mathlib.Omega.{arith}
use borrow.Author.Rules.{rules}
use borrow.Author.Tests.{eq-eqb, ne_eqb}
use lib.ListN.{length}
use Rattle.scan.proofs.ScanLaws.{scan_start, scan_length, scan_index, scan_yes, scan_no}
use Rattle.scan.proofs.scan_kind.Goals as goal
use Rattle.scan.proofs.scan_kind.Goals.{At-loop-i, Then-own-want_kind, else-own-want_kind, then-own-want_kind}

pub loop-i-init : goal.loop-i-init
loop-i-init c = scan_start

-- there is room for a row that passes
free : (c : Then-own-want_kind) → (let s = c in s.loop-i.next < length s.loop-i.out)
free c =
    let s = c in
    scan_index s.requires s.loop-i.invariant c.loop-i-test.true (eq-eqb _ _ c.if-own-want_kind.true)

whole : (s : At-loop-i) → length s.loop-i.out ≡ length s.args.out.now
whole s = scan_length s.requires s.loop-i.invariant

pub offset_bounds-out-next : goal.offset_bounds-out-next
offset_bounds-out-next c =
    let p = free (goal.at.offset_bounds-out-next c).Then-own-want_kind in
    let w = whole (goal.at.offset_bounds-out-next c).At-loop-i in
    search rules

pub bounds-out-next : goal.bounds-out-next
bounds-out-next c = free (goal.at.bounds-out-next c).Then-own-want_kind

pub overflow_add-next : goal.overflow_add-next
overflow_add-next c =
    let p = free (goal.at.overflow_add-next c).Then-own-want_kind in
    let w = whole (goal.at.overflow_add-next c).At-loop-i in
    omega arith

pub loop-i-preserved : goal.loop-i-preserved
loop-i-preserved c =
    let s = c in
    let l = c.loop-i-test.true in
    elim c.if-own-want_kind.branch [
      | then-own-want_kind w ↦ scan_yes s.requires s.loop-i.invariant l
          (eq-eqb _ _ w.if-own-want_kind.true) w.out-is w.next-is
      | else-own-want_kind w ↦ scan_no s.requires s.loop-i.invariant l
          (ne_eqb _ _ w.if-own-want_kind.false) w.out-is w.next-is
    ]
