-- `scan::number_rows` meets its contract. The invariant: the first i rows are appended.
-- Assumes nothing.
use mathlib.Core.Bool.{true}
use Rattle.scan.proofs.ScanLaws.{Scanning}
use Rattle.scan.proofs.number_rows.Given as goal

abbrev pub invariant-loop-i : goal.invariant-loop-i
invariant-loop-i l = Scanning l.from (λ k. true) l.count l.initial.out l.written l.out l.next l.i
