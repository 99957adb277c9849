-- `scan::emit_one` meets its contract: the range is empty, or its one row fits or does not.
-- Assumes nothing.
use mathlib.Core.Path.{sym, ◌∙◌}
use Rattle.scan.proofs.ScanLaws.{one_none, one_no, one_room, one_yes}
use Rattle.scan.proofs.emit_one.Goals as goal

pub returns-then-to-from : goal.returns-then-to-from
returns-then-to-from c = one_none c.requires.1 c.if-to-from.true

pub bounds-out-written : goal.bounds-out-written
bounds-out-written c =
    let t = c in
    one_room t.requires.1 t.if-to-from.false t.requires.0 (sym t.fits.ensures ∙ c.if-fits.true)

pub returns-then-fits : goal.returns-then-fits
returns-then-fits c =
    let t = c in
    one_yes t.requires.1 t.if-to-from.false t.requires.0 (sym t.fits.ensures ∙ c.if-fits.true)

pub returns : goal.returns
returns c =
    let t = c in
    one_no t.requires.1 t.if-to-from.false t.requires.0 (sym t.fits.ensures ∙ c.if-fits.false)
