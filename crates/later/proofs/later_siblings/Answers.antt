-- `later::later_siblings` meets its contract. The loop's invariant: what the contexts before number i reach is
-- written, what the others reach comes after it, and the set is empty. Assumes nothing.
use mathlib.Core.Path.{sym}
use native.Mathlib.Omega.{arith}
use Rattle.scan.specs.OneRole.{RoleIn}
use Rattle.axis.proofs.RoleAxisLaws.{role_as, wrote_axis, sibling_parents}
use Rattle.later.proofs.GroupLaws.{group_start, group_done}
use Rattle.later.proofs.GroupLaws.{group_less, group_some, group_asks, group_sum, group_turn}
use Rattle.later.proofs.later_siblings.Goals as goal
use Rattle.later.proofs.later_siblings.Goals.{Start}

-- what is asked, on axis 10
pre : (c : Start) → RoleIn 10 c.args.walk.now.trees c.args.walk.now.test c.args.rows.now c.args.out.now
pre c = role_as c.requires.ten c.requires.role_ask.asks

pub loop-i-init : goal.loop-i-init
loop-i-init c = (group_start (pre (goal.at.loop-i-init c).Start), c.requires.role_ask.blank)

pub later_end-end-requires : goal.later_end-end-requires
later_end-end-requires c = (
  sibling_parents c.args.walk.now c.requires.ten (omega arith) (omega arith),
  c.requires.role_ask.asks.contexts.inside _ c.loop-i-test.true,
)

pub group_siblings-next-requires : goal.group_siblings-next-requires
group_siblings-next-requires c =
    let p = pre (goal.at.group_siblings-next-requires c).Start in let i = c.loop-i.invariant in
    let l = c.loop-i-test.true in let e = c.later_end-end.ensures in let j = c.past_tree-j.ensures in record {
      ten = (c.requires.ten, group_some p i.0 l e j);
      role_ask = record { asks = role_as (sym c.requires.ten) (group_asks p i.0 l e j); blank = i.1 };
    }

pub overflow_add-next : goal.overflow_add-next
overflow_add-next c =
    let walk = c.args.walk.now in
    let w = wrote_axis walk.trees walk.test _ (sym c.requires.ten) c.group_siblings-next.ensures.wrote in
    let g = group_sum (pre (goal.at.overflow_add-next c).Start) c.loop-i.invariant.0 c.loop-i-test.true
    c.later_end-end.ensures c.past_tree-j.ensures w in
    omega arith

pub loop-i-smaller : goal.loop-i-smaller
loop-i-smaller c =
    let g = group_less (pre (goal.at.loop-i-smaller c).Start) c.loop-i.invariant.0 c.loop-i-test.true
    c.later_end-end.ensures c.past_tree-j.ensures in
    omega arith

pub loop-i-preserved : goal.loop-i-preserved
loop-i-preserved c =
    let walk = c.args.walk.now in
    let w = wrote_axis walk.trees walk.test _ (sym c.requires.ten) c.group_siblings-next.ensures.wrote in (
      group_turn (pre (goal.at.loop-i-preserved c).Start) c.loop-i.invariant.0 c.loop-i-test.true
          c.later_end-end.ensures c.past_tree-j.ensures w,
      c.group_siblings-next.ensures.blank,
    )

pub returns : goal.returns
returns c = let walk = c.args.walk.now in record {
  wrote = wrote_axis walk.trees walk.test _ c.requires.ten
      (group_done (pre (goal.at.returns c).Start) c.loop-i.invariant.0 c.loop-i-test.false);
  blank = c.loop-i.invariant.1;
}
