-- `direct::children::append_leaves` meets its contract. The loop's invariant: the children before row w that fit are
-- appended, and w is not before the row at which it began. Assumes nothing.
use Prim.Native.Nat.{ℕ, ◌+◌, ◌<◌}
use mathlib.Core.Path.{◌≡◌, sym, ◌∙◌}
use native.Mathlib.Omega.{arith}
use lib.ListN.{length}
use Rattle.tree.specs.Table.{at}
use Rattle.tree.proofs.SoundLaws.{shape_fits}
use Rattle.direct.proofs.ChildRowLaws.{Walked, walk_row, walk_start, walk_length, walk_room, walk_no, walk_yes}
use Rattle.direct.proofs.children.append_leaves.Goals as goal
use Rattle.direct.proofs.children.append_leaves.Goals.{
  At-loop-w,
  In-loop-w,
  Joined-fits,
  Then-fits,
  else-fits,
  then-fits,
}

-- out keeps its length
whole : (s : At-loop-w) → length s.loop-w.out ≡ length s.args.out.now
whole s = walk_length s.requires.1 s.loop-w.invariant

-- at a row that fits there is room for it
free : (c : Then-fits) → (c.loop-w.written < length c.loop-w.out)
free c =
    walk_room c.requires.1 c.loop-w.invariant c.loop-w-test.true
    (sym c.fits.ensures ∙ c.if-fits.true)

-- past row w, whether it fits or not
past : (c : Joined-fits) (r : ℕ) → (r ≡ c.loop-w.w + at c.args.trees.now.size.now c.loop-w.w + 1
    → Walked c.args.trees.now c.args.test.now c.args.p
    c.args.at.row c.args.end c.args.out.now c.args.at.written c.if-fits.out r c.if-fits.written)
past c r e =
    let l = c.loop-w-test.true in elim c.if-fits.branch [
      | then-fits w ↦ rw (w.out-is, w.written-is)
          (walk_yes c.requires.1 c.loop-w.invariant l (sym c.fits.ensures ∙ w.if-fits.true) e)
      | else-fits w ↦ rw (w.out-is, w.written-is)
          (walk_no c.requires.1 c.loop-w.invariant l (sym c.fits.ensures ∙ w.if-fits.false) e)
    ]

-- a row before the end is in use
in_use : (c : In-loop-w) → (c.loop-w.w < c.args.trees.now.count)
in_use c = walk_row c.requires.1 c.loop-w.w c.loop-w-test.true

pub loop-w-init : goal.loop-w-init
loop-w-init c = walk_start c.requires.1

pub fits-requires : goal.fits-requires
fits-requires c =
    let l = in_use (goal.at.fits-requires c).In-loop-w in
    (omega (arith, c.requires.1.in_kind), omega (arith, c.requires.1.in_name))

pub offset_bounds-out-written : goal.offset_bounds-out-written
offset_bounds-out-written c =
    let p = free (goal.at.offset_bounds-out-written c).Then-fits in
    let w = whole (goal.at.offset_bounds-out-written c).At-loop-w in
    omega arith

pub bounds-out-written : goal.bounds-out-written
bounds-out-written c = free (goal.at.bounds-out-written c).Then-fits

pub overflow_add-written : goal.overflow_add-written
overflow_add-written c =
    let p = free (goal.at.overflow_add-written c).Then-fits in
    let w = whole (goal.at.overflow_add-written c).At-loop-w in
    omega arith

pub offset_bounds-size-w : goal.offset_bounds-size-w
offset_bounds-size-w c =
    let s = c.args.trees.now.shape in
    omega (arith, in_use (goal.at.offset_bounds-size-w c).In-loop-w, s.few)

pub bounds-size-w : goal.bounds-size-w
bounds-size-w c =
    let s = c.args.trees.now.shape in
    omega (arith, in_use (goal.at.bounds-size-w c).In-loop-w, s.in_size)

pub overflow_add-result-then-below-ne0 : goal.overflow_add-result-then-below-ne0
overflow_add-result-then-below-ne0 c =
    let s = c.args.trees.now.shape in
    omega (arith, shape_fits s c.loop-w.w (in_use (goal.at.overflow_add-result-then-below-ne0 c).In-loop-w), s.few)

pub returns-then-below-ne0 : goal.returns-then-below-ne0
returns-then-below-ne0 c =
    let v = c.loop-w.w in
    let size = c.args.trees.now.size.now in
    let r : v + 1 + at size v ≡ v + at size v + 1 = omega arith in
    let w = past (goal.at.returns-then-below-ne0 c).Joined-fits _ r in
    (omega (arith, c.loop-w.invariant.low), w.high, w.here, w.appends)

pub loop-w-preserved : goal.loop-w-preserved
loop-w-preserved c =
    let v = c.loop-w.w in
    let size = c.args.trees.now.size.now in
    let r : v + 1 ≡ v + at size v + 1 = omega (arith, c.if-below-ne0.false) in
    past (goal.at.loop-w-preserved c).Joined-fits _ r
