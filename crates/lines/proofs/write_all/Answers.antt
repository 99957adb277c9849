-- `lines::write_all` meets its contract. The lines of the roles before number i stand in the result columns, and
-- their kept pairs are counted. Assumes nothing.
use native.Mathlib.Omega.{arith}
use Rattle.runs.proofs.StepRunLaws.{pairs_fit}
use Rattle.lines.proofs.WrittenLaws.{written_none}
use Rattle.lines.proofs.WrittenLaws.{written_start, written_starts, written_asks, written_room}
use Rattle.lines.proofs.WrittenLaws.{written_step, written_more, written_done}
use Rattle.lines.proofs.KeptRunLaws.{keeping_none, keeping_asks, run_most, keeping_more, keeping_done}
use Rattle.lines.proofs.write_all.Goals as goal

pub loop-i-init : goal.loop-i-init
loop-i-init c = (
  written_none c.args.call.now c.requires _ c.new-set.ensures,
  keeping_none c.args.call.now,
)

pub slice_bounds-rows-end : goal.slice_bounds-rows-end
slice_bounds-rows-end c = omega (arith, c.run_end-j.ensures.within, (pairs_fit c.args.call.now.ready).even)

pub kept_of-kept-requires : goal.kept_of-kept-requires
kept_of-kept-requires c = record {
  kept_in = keeping_asks c.args.call.now c.walk_of-walk.ensures c.run_end-j.ensures;
  roots = c.walk_of-walk.result.links.roots;
}

pub overflow_add-kept : goal.overflow_add-kept
overflow_add-kept c =
    omega (
      arith,
      c.loop-i.invariant.1.small,
      c.run_end-j.ensures.within,
      c.run_end-j.ensures.after,
      c.kept_of-kept.ensures,
      run_most c.args.call.now c.walk_of-walk.ensures c.run_end-j.ensures,
      (pairs_fit c.args.call.now.ready).few,
    )

pub offset_bounds-out_row-m : goal.offset_bounds-out_row-m
offset_bounds-out_row-m c =
    omega (arith, c.loop-i.invariant.0.small, c.loop-i-test.true, (pairs_fit c.args.call.now.ready).few)

pub slice_bounds-part-count : goal.slice_bounds-part-count
slice_bounds-part-count c =
    let w = c.walk_of-walk.ensures in let e = c.run_end-j.ensures in
    omega (arith, written_start c.args.call.now c.requires c.loop-i.invariant.0 w e)

pub slice_bounds-part-start : goal.slice_bounds-part-start
slice_bounds-part-start c =
    let w = c.walk_of-walk.ensures in let e = c.run_end-j.ensures in
    omega (arith, written_start c.args.call.now c.requires c.loop-i.invariant.0 w e)

pub role_rows-n-requires : goal.role_rows-n-requires
role_rows-n-requires c = record {
  upward_value = c.is_upward-upward.ensures;
  role_ask = written_asks c.args.call.now c.requires c.loop-i.invariant.0 c.walk_of-walk.ensures c.run_end-j.ensures;
}

pub offset_bounds-out_role-m : goal.offset_bounds-out_role-m
offset_bounds-out_role-m c =
    omega (arith, c.loop-i.invariant.0.small, c.loop-i-test.true, (pairs_fit c.args.call.now.ready).few)

pub slice_bounds-fill-count : goal.slice_bounds-fill-count
slice_bounds-fill-count c =
    let w = c.walk_of-walk.ensures in let e = c.run_end-j.ensures in
    omega (arith, written_starts c.args.call.now c.requires c.loop-i.invariant.0 w e)

pub slice_bounds-fill-start : goal.slice_bounds-fill-start
slice_bounds-fill-start c =
    let w = c.walk_of-walk.ensures in let e = c.run_end-j.ensures in
    omega (arith, written_starts c.args.call.now c.requires c.loop-i.invariant.0 w e)

pub fill-requires : goal.fill-requires
fill-requires c =
    let w = c.walk_of-walk.ensures in let e = c.run_end-j.ensures in
    written_room c.args.call.now c.requires c.loop-i.invariant.0 w e c.role_rows-n.ensures

pub overflow_add-m : goal.overflow_add-m
overflow_add-m c =
    let w = c.walk_of-walk.ensures in let e = c.run_end-j.ensures in
    omega (
      arith,
      written_step c.args.call.now c.requires c.loop-i.invariant.0 w e c.role_rows-n.ensures,
      c.loop-i.invariant.0.small,
      c.loop-i-test.true,
      (pairs_fit c.args.call.now.ready).few,
    )

pub loop-i-preserved : goal.loop-i-preserved
loop-i-preserved c =
    let w = c.walk_of-walk.ensures in let e = c.run_end-j.ensures in (
      written_more c.args.call.now c.requires c.loop-i.invariant.0 w e c.role_rows-n.ensures c.fill.ensures,
      keeping_more c.args.call.now w e c.loop-i.invariant.1 c.kept_of-kept.ensures,
    )

pub returns : goal.returns
returns c = record {
  lists = written_done c.args.call.now c.requires c.loop-i.invariant.0 c.loop-i-test.false;
  kept_value = keeping_done c.args.call.now c.loop-i.invariant.1 c.loop-i-test.false;
}
