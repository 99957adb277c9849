-- `batch::batch` meets its contract: refusal 1, or the rest with chains at one of the two sizes. Assumes nothing.
use mathlib.Core.Path.{sym, ◌∙◌}
use Rattle.tree.specs.Table.{table_of}
use Rattle.tree.specs.Rules.{InUse}
use Rattle.tree.proofs.SoundLaws.{count_ok_lem}
use Rattle.batch.proofs.CheckedLaws.{count_refuses}
use Rattle.batch.proofs.batch.Goals as goal
use Rattle.batch.proofs.batch.Goals.{Else-not-count_ok}

pub returns-then-not-count_ok : goal.returns-then-not-count_ok
returns-then-not-count_ok c =
    let counted = c.count_ok in rw c.nothing_done.ensures
    (count_refuses _ _ _ _ (sym counted.ensures ∙ c.if-not-count_ok.true))

-- the table is in use
in_use : (c : Else-not-count_ok)
    → InUse (table_of c.args.key.now c.args.size.now c.args.level.now c.args.kind.now c.args.name.now c.args.count)
in_use c = (count_ok_lem _).0 (sym c.count_ok.ensures ∙ c.if-not-count_ok.false)

pub check_and_do_in-requires-clause-in_use : goal.check_and_do_in-requires-clause-in_use
check_and_do_in-requires-clause-in_use c = in_use (goal.at.check_and_do_in-requires-clause-in_use c).Else-not-count_ok

pub check_and_do_in-requires-2-clause-in_use : goal.check_and_do_in-requires-2-clause-in_use
check_and_do_in-requires-2-clause-in_use c =
    in_use (goal.at.check_and_do_in-requires-2-clause-in_use c).Else-not-count_ok

pub check_and_do_in-requires-2-clause-in_room : goal.check_and_do_in-requires-2-clause-in_room
check_and_do_in-requires-2-clause-in_room c =
    (in_use (goal.at.check_and_do_in-requires-2-clause-in_room c).Else-not-count_ok).few
