-- `scan::scan_named` meets its contract. The invariant: the first i rows that fit are appended.
-- Assumes nothing.
use lib.ListN.{length}
use Rattle.scan.specs.Want.{fits}
use Rattle.scan.proofs.ScanLaws.{Scanning}
use Rattle.scan.proofs.scan_named.Given as goal

abbrev pub invariant-loop-i : goal.invariant-loop-i
invariant-loop-i l =
    Scanning l.from (fits l.part.want l.part.kind.now l.part.name.now)
    (length l.part.kind.now) l.initial.out l.written l.out l.next l.i
