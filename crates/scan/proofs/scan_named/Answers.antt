-- `scan::scan_named` meets its contract. The invariant: the first i rows that fit are appended.
-- Assumes nothing.
use mathlib.Core.Path.{◌≡◌, sym, ◌∙◌}
use Prim.Native.Nat.{◌<◌}
use native.Mathlib.Omega.{arith}
use borrow.Author.Rules.{rules}
use lib.ListN.{length}
use Rattle.scan.proofs.ScanLaws.{scan_start, scan_length, scan_index, scan_yes, scan_no}
use Rattle.scan.proofs.scan_named.Goals as goal
use Rattle.scan.proofs.scan_named.Goals.{At-loop-i, Then-fits, else-fits, then-fits}

pub loop-i-init : goal.loop-i-init
loop-i-init c = scan_start

-- there is room for a row that fits
free : (c : Then-fits) → (let s = c in s.loop-i.next < length s.loop-i.out)
free c =
    let s = c in
    scan_index s.requires.1 s.loop-i.invariant c.loop-i-test.true
    (sym c.fits.ensures ∙ c.if-fits.true)

whole : (s : At-loop-i) → length s.loop-i.out ≡ length s.args.out.now
whole s = scan_length s.requires.1 s.loop-i.invariant

pub offset_bounds-out-next : goal.offset_bounds-out-next
offset_bounds-out-next c =
    let p = free (goal.at.offset_bounds-out-next c).Then-fits in
    let w = whole (goal.at.offset_bounds-out-next c).At-loop-i in
    search rules

pub bounds-out-next : goal.bounds-out-next
bounds-out-next c = free (goal.at.bounds-out-next c).Then-fits

pub overflow_add-next : goal.overflow_add-next
overflow_add-next c =
    let p = free (goal.at.overflow_add-next c).Then-fits in
    let w = whole (goal.at.overflow_add-next c).At-loop-i in
    omega arith

pub loop-i-preserved : goal.loop-i-preserved
loop-i-preserved c =
    let s = c in
    let l = c.loop-i-test.true in
    let e = c.fits.ensures in
    elim c.if-fits.branch [
      | then-fits w ↦ scan_yes s.requires.1 s.loop-i.invariant l (sym e ∙ w.if-fits.true) w.out-is w.next-is
      | else-fits w ↦ scan_no s.requires.1 s.loop-i.invariant l (sym e ∙ w.if-fits.false) w.out-is w.next-is
    ]
