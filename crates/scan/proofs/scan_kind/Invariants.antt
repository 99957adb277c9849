-- `scan::scan_kind` meets its contract. The invariant: the first i rows that pass are appended.
-- Assumes nothing.
use lib.Dec.{eqb}
use lib.ListN.{length}
use Rattle.tree.specs.Table.{at}
use Rattle.scan.proofs.ScanLaws.{Scanning}
use Rattle.scan.proofs.scan_kind.Given as goal

abbrev pub invariant-loop-i : goal.invariant-loop-i
invariant-loop-i l =
    Scanning l.from (λ k. eqb (at l.kind k) l.want_kind) (length l.kind) l.initial.out l.written l.out l.next l.i
