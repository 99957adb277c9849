-- `batch::check_and_do` meets its contract: refusal 2 or 18, or the items. Assumes nothing.
use mathlib.Core.Path.{sym, ◌∙◌}
use native.Mathlib.Omega.{arith}
use Rattle.tree.proofs.BatchRefusals.{good_list}
use Rattle.batch.proofs.CheckedLaws.{rows_sound, no_bad_row, row_refuses, list_refuses, items_leave}
use Rattle.batch.proofs.check_and_do.Goals as goal

pub returns-then-bad-count : goal.returns-then-bad-count
returns-then-bad-count c =
    rw c.nothing_done.ensures
    (row_refuses _ _ _ _ c.requires.in_use c.first_bad_in-bad.ensures.value c.if-bad-count.true)

pub returns-in-Err : goal.returns-in-Err
returns-in-Err c =
    rw c.nothing_done-in-Err.ensures
    (list_refuses _ _ _ _ c.requires.in_use c.first_bad_in-bad.ensures.value c.if-bad-count.false
    (sym c.check_list.ensures ∙ c.in-Err.is))

pub do_items-requires : goal.do_items-requires
do_items-requires c =
    let good = (good_list _ _ _).0 (sym c.check_list.ensures ∙ c.in_default.is) in record {
      sound = rows_sound _ c.requires.in_use c.first_bad_in-bad.ensures.value c.if-bad-count.false;
      in_room = (omega (arith, c.requires.in_room, c.first_bad_in-bad.ensures.room), c.requires.in_use.few);
      chained = c.first_bad_in-bad.ensures.chained_2
          (no_bad_row _ c.first_bad_in-bad.ensures.value c.if-bad-count.false);
      good_list = good;
    }

pub returns : goal.returns
returns c =
    items_leave _ _ _ _ c.requires.in_use c.first_bad_in-bad.ensures.value c.if-bad-count.false
    (sym c.check_list.ensures ∙ c.in_default.is) c.do_items.ensures
