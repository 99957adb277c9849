-- `scan::emit` meets its contract: each way scans the range, as parts of the columns, by a test that says
-- whether a row fits. Assumes nothing.
use mathlib.Core.Path.{refl}
use Prim.Native.Nat.{◌<◌, ◌^◌}
use native.Mathlib.Omega.{arith}
use Rattle.scan.proofs.WantLaws.{fits_part, fits_part_kind, fits_any}
use Rattle.scan.proofs.ScanLaws.{range_asks, range_gives, part_length}
use Rattle.scan.proofs.emit.Goals as goal
use Rattle.scan.proofs.emit.Goals.{Start}

-- a row's number fits
low : (s : Start) → s.args.to < 2 ^ 64
low s = omega (arith, s.requires, s.well_formed)

pub scan_named-requires : goal.scan_named-requires
scan_named-requires c =
    let a = c.args in
    let p = part_length a.test.now.kind.now a.from a.to c.requires.in_kind in
    let q = part_length a.test.now.name.now a.from a.to c.requires.in_name in
    (omega arith, range_asks c.requires p (fits_part _ _ _ _ _) (low (goal.at.scan_named-requires c).Start))

pub returns-in-Some-default : goal.returns-in-Some-default
returns-in-Some-default c =
    let a = c.args in
    range_gives c.requires (part_length a.test.now.kind.now a.from a.to c.requires.in_kind) (fits_part _ _ _ _ _)
    c.scan_named.ensures

pub scan_kind-requires : goal.scan_kind-requires
scan_kind-requires c =
    let a = c.args in
    range_asks c.requires (part_length a.test.now.kind.now a.from a.to c.requires.in_kind)
    (λ i l. fits_part_kind _ _ _ _ _ i l c.in-None-Some.is-1 c.in-None-Some.is-0)
    (low (goal.at.scan_kind-requires c).Start)

pub returns-in-None-Some : goal.returns-in-None-Some
returns-in-None-Some c =
    let a = c.args in
    range_gives c.requires (part_length a.test.now.kind.now a.from a.to c.requires.in_kind)
    (λ i l. fits_part_kind _ _ _ _ _ i l c.in-None-Some.is-1 c.in-None-Some.is-0)
    c.scan_kind.ensures

pub number_rows-requires : goal.number_rows-requires
number_rows-requires c =
    range_asks c.requires refl (λ i l. fits_any _ _ _ _ c.in-None-None.is-1 c.in-None-None.is-0)
    (low (goal.at.number_rows-requires c).Start)

pub returns-in-None-None : goal.returns-in-None-None
returns-in-None-None c =
    range_gives c.requires refl (λ i l. fits_any _ _ _ _ c.in-None-None.is-1 c.in-None-None.is-0)
    c.number_rows.ensures
