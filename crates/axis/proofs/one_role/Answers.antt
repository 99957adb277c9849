-- `axis::one_role` meets its contract: an axis that is not ranged goes through the set, unless its rows are on
-- the ways up from the contexts. Assumes nothing.
use mathlib.Core.Path.{sym, ◌∙◌}
use native.Mathlib.Omega.{arith}
use Rattle.scan.proofs.WroteLaws.{wrote_as}
use Rattle.axis.proofs.RoleAxisLaws.{role_as, wrote_axis, above_own}
use Rattle.axis.proofs.RoleAxisLaws.{marked_rest, marked_rows, marked_drains}
use Rattle.axis.proofs.one_role.Goals as goal

pub overflow_sub-walk : goal.overflow_sub-walk
overflow_sub-walk c = omega (arith, (above_own _ (sym c.is_above.ensures ∙ c.if-is_above.true)).1)

pub rows_above-requires : goal.rows_above-requires
rows_above-requires c =
    let own = above_own _ (sym c.is_above.ensures ∙ c.if-is_above.true) in record {
      own_bound = (own.0, role_as (sym own.1) c.requires.asks);
      parents = c.args.walk.now.links.parents own.2;
    }

pub returns-then-is_above : goal.returns-then-is_above
returns-then-is_above c =
    let own = above_own _ (sym c.is_above.ensures ∙ c.if-is_above.true) in
    let walk = c.args.walk.now in record {
      wrote = wrote_axis walk.trees walk.test _ (sym own.1) c.rows_above.ensures;
      blank = c.requires.blank;
    }

pub marked-requires : goal.marked-requires
marked-requires c = record {
  axis_value = marked_rest _ c.args.walk.now.known (sym c.is_ranged.ensures ∙ c.if-is_ranged.false)
      (sym c.is_above.ensures ∙ c.if-is_above.false);
  marks = record { contexts = c.requires.asks.contexts; blank = c.requires.blank };
}

pub drain-requires : goal.drain-requires
drain-requires c = marked_drains c.marked.ensures c.requires.asks

pub returns : goal.returns
returns c = record {
  wrote = wrote_as (marked_rows c.marked.ensures _) c.drain.ensures.wrote;
  blank = c.drain.ensures.blank;
}
