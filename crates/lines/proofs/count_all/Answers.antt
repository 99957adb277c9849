-- `lines::count_all` meets its contract. The lines of the roles before number i are counted. Assumes nothing.
use Prim.Native.Nat.{ℕ}
use native.Mathlib.Omega.{arith}
use lib.ListN.{replicate, length-replicate}
use Rattle.runs.proofs.StepRunLaws.{pairs_fit}
use Rattle.lines.proofs.CountedLaws.{counted_none, counted_asks}
use Rattle.lines.proofs.CountedLaws.{counted_small, counted_more, counted_done}
use Rattle.lines.proofs.count_all.Goals as goal

pub loop-i-init : goal.loop-i-init
loop-i-init c =
    counted_none c.args.call.now _ (replicate {A = ℕ} 4096 0) c.new-set.ensures (length-replicate {A = ℕ} 4096 0)

pub slice_bounds-role_rows-end : goal.slice_bounds-role_rows-end
slice_bounds-role_rows-end c = omega (arith, c.run_end-j.ensures.within, (pairs_fit c.args.call.now.ready).even)

pub role_rows-total-requires : goal.role_rows-total-requires
role_rows-total-requires c = record {
  upward_value = c.is_upward-upward.ensures;
  role_ask = counted_asks c.args.call.now c.loop-i.invariant c.walk_of-walk.ensures c.run_end-j.ensures;
}

pub overflow_add-total : goal.overflow_add-total
overflow_add-total c =
    omega (
      arith,
      counted_small c.args.call.now c.loop-i.invariant c.walk_of-walk.ensures c.run_end-j.ensures
          c.role_rows-total.ensures,
      c.loop-i.invariant.small,
      c.loop-i.invariant.within,
      (pairs_fit c.args.call.now.ready).few,
    )

pub loop-i-preserved : goal.loop-i-preserved
loop-i-preserved c =
    counted_more c.args.call.now c.loop-i.invariant c.walk_of-walk.ensures c.run_end-j.ensures
    c.role_rows-total.ensures

pub returns : goal.returns
returns c = counted_done c.args.call.now c.loop-i.invariant c.loop-i-test.false
