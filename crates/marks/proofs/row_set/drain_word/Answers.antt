-- `marks::row_set::drain_word` meets its contract. The loop's invariant: for some bit of the word, the rows before it
-- that fit are written, and the rest has the word's bits from there on. The measure is the rest. Assumes nothing.
use Prim.Native.Nat.{◌<◌}
use mathlib.Core.Path.{◌≡◌}
use native.Mathlib.Omega.{arith}
use lib.Count.{count_trailing_zeros}
use lib.ListN.{length}
use Rattle.marks.proofs.BitsLeftLaws.{left_high, left_set}
use Rattle.marks.proofs.WordLaws.{word_start, word_done, word_length, word_index, word_no, word_yes}
use Rattle.marks.proofs.row_set.drain_word.Goals as goal
use Rattle.marks.proofs.row_set.drain_word.Goals.{At-loop-rest, In-loop-rest, Then-fits, else-fits, then-fits}

-- the lowest bit is one of the 64
high : (c : In-loop-rest) → count_trailing_zeros 64 c.loop-rest.rest < 64
high c = left_high c.loop-rest.invariant.left c.loop-rest-test.true

-- out keeps its length
whole : (c : At-loop-rest) → length c.loop-rest.out ≡ length c.args.out.now
whole c = word_length _ _ _ _ c.loop-rest.invariant c.requires.room

-- at a row that fits there is room for it
written : (c : Then-fits) → c.loop-rest.at < length c.loop-rest.out
written c =
    word_index _ _ _ _ c.loop-rest.invariant c.requires.room c.loop-rest-test.true c.fits.ensures c.if-fits.true

pub loop-rest-init : goal.loop-rest-init
loop-rest-init c = word_start _ _ _ _ c.ranges.word.fits

pub fits-requires : goal.fits-requires
fits-requires c =
    let l = high (goal.at.fits-requires c).In-loop-rest in
    let e = left_set c.loop-rest.invariant.left c.loop-rest-test.true in
    (c.requires.in_kind _ l e, c.requires.in_name _ l e)

pub offset_bounds-out-at : goal.offset_bounds-out-at
offset_bounds-out-at c =
    let p = written (goal.at.offset_bounds-out-at c).Then-fits in
    let w = whole (goal.at.offset_bounds-out-at c).At-loop-rest in
    omega arith

pub bounds-out-at : goal.bounds-out-at
bounds-out-at c = written (goal.at.bounds-out-at c).Then-fits

pub overflow_add-at : goal.overflow_add-at
overflow_add-at c =
    let p = written (goal.at.overflow_add-at c).Then-fits in
    let w = whole (goal.at.overflow_add-at c).At-loop-rest in
    omega arith

pub loop-rest-preserved : goal.loop-rest-preserved
loop-rest-preserved c =
    let v = c.loop-rest.invariant in let room = c.requires.room in let some = c.loop-rest-test.true in
    let e = c.fits.ensures in elim c.if-fits.branch [
      | then-fits w ↦ rw (w.at-is, w.out-is) (word_yes _ _ _ _ v room some e w.if-fits.true)
      | else-fits w ↦ rw (w.at-is, w.out-is) (word_no _ _ _ _ v room some e w.if-fits.false)
    ]

pub returns : goal.returns
returns c = word_done _ _ _ _ c.loop-rest.invariant c.loop-rest-test.false
