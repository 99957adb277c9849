-- `marks::row_set::RowSet::drain` meets its contract. The loop's invariant: for some word, the words before it are
-- cleared and their rows that fit are written, the others are as they were, and `left` marks those of them that hold
-- a row. The measure is `left`. Assumes nothing.
use Prim.Native.Nat.{◌≤◌}
use mathlib.Core.Path.{◌≡◌}
use native.Mathlib.Omega.{arith}
use lib.ListN.{length}
use Rattle.marks.specs.RowSet.{Drains}
use Rattle.marks.proofs.DrainLaws.{set_start, set_length, set_index, set_done, set_used}
use Rattle.marks.proofs.DrainLaws.{set_asks, set_sum, set_next}
use Rattle.marks.proofs.row_set.RowSet.drain.Goals as goal
use Rattle.marks.proofs.row_set.RowSet.drain.Goals.{At-loop-left}

-- what is asked of the set, of its words
pre : (c : At-loop-left) → Drains c.args.test.now c.args.count c.self.inside.words c.args.out.now
pre c = rw c.self.view_is c.requires

-- out keeps its length, and what is written is in it
whole : (c : At-loop-left) → length c.loop-left.out ≡ length c.args.out.now
whole c = set_length (pre c) c.self.invariant c.loop-left.invariant

written : (c : At-loop-left) → c.loop-left.at ≤ length c.loop-left.out
written c = set_index (pre c) c.self.invariant c.loop-left.invariant

pub loop-left-init : goal.loop-left-init
loop-left-init c = set_start _ _ _ _ c.self.invariant.long c.self.ranges.1.0.1

pub invariant_of-self : goal.invariant_of-self
invariant_of-self c =
    set_used (pre (goal.at.invariant_of-self c).At-loop-left) c.self.invariant c.loop-left.invariant
    c.loop-left-test.false

pub offset_bounds-out-at : goal.offset_bounds-out-at
offset_bounds-out-at c =
    let p = written (goal.at.offset_bounds-out-at c).At-loop-left in
    let w = whole (goal.at.offset_bounds-out-at c).At-loop-left in
    omega arith

pub slice_bounds-drain_word-count : goal.slice_bounds-drain_word-count
slice_bounds-drain_word-count c = written (goal.at.slice_bounds-drain_word-count c).At-loop-left

pub slice_bounds-drain_word-start : goal.slice_bounds-drain_word-start
slice_bounds-drain_word-start c = written (goal.at.slice_bounds-drain_word-start c).At-loop-left

pub drain_word-at-requires : goal.drain_word-at-requires
drain_word-at-requires c =
    set_asks (pre (goal.at.drain_word-at-requires c).At-loop-left) c.self.invariant c.loop-left.invariant
    c.loop-left-test.true

pub overflow_add-at : goal.overflow_add-at
overflow_add-at c =
    omega (
      arith,
      set_sum (pre (goal.at.overflow_add-at c).At-loop-left) c.self.invariant c.loop-left.invariant
          c.loop-left-test.true c.drain_word-at.ensures,
      c.well_formed,
    )

pub loop-left-preserved : goal.loop-left-preserved
loop-left-preserved c =
    set_next (pre (goal.at.loop-left-preserved c).At-loop-left) c.self.invariant c.loop-left.invariant
    c.loop-left-test.true c.drain_word-at.ensures

pub returns : goal.returns
returns c =
    rw (← c.self.view_is) (set_done (pre (goal.at.returns c).At-loop-left) c.self.invariant c.loop-left.invariant
    c.loop-left-test.false)
