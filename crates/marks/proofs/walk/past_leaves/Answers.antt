-- `marks::walk::past_leaves` meets its contract. The loop's invariant: the children before row w are gathered.
-- Assumes nothing.
use Prim.Native.Nat.{◌+◌, ◌%◌}
use mathlib.Core.Path.{◌≡◌}
use native.Mathlib.Omega.{arith}
use Rattle.tree.specs.Table.{at}
use Rattle.marks.proofs.RowSetLaws.{shifted_one}
use Rattle.marks.proofs.ChildWalkLaws.{row_in_use}
use Rattle.marks.proofs.WordChildLaws.{gathers_inside, gathered_next}
use Rattle.marks.proofs.walk.past_leaves.Goals as goal

pub offset_bounds-size-w : goal.offset_bounds-size-w
offset_bounds-size-w c =
    let s = c.args.trees.now.shape in let h = c.requires.gathers.0 in
    omega (arith, row_in_use s h.row h.inside c.loop-w.w c.loop-w-test.true, s.few)

pub bounds-size-w : goal.bounds-size-w
bounds-size-w c =
    let s = c.args.trees.now.shape in let h = c.requires.gathers.0 in
    omega (arith, row_in_use s h.row h.inside c.loop-w.w c.loop-w-test.true, s.in_size)

pub overflow_add-result-then-below-ne0 : goal.overflow_add-result-then-below-ne0
overflow_add-result-then-below-ne0 c =
    omega (arith, gathers_inside c.requires.gathers.0 c.loop-w.w c.loop-w-test.true, c.args.trees.now.shape.few)

pub returns-then-below-ne0 : goal.returns-then-below-ne0
returns-then-below-ne0 c =
    let v = c.loop-w.w in
    let r : v + 1 + at c.args.trees.now.size.now v ≡ v + at c.args.trees.now.size.now v + 1 = omega arith in
    rw (shifted_one (v % 64) (omega arith))
    (gathered_next c.requires.gathers.0 c.loop-w.invariant c.loop-w-test.true _ r, omega arith)

pub loop-w-preserved : goal.loop-w-preserved
loop-w-preserved c =
    let v = c.loop-w.w in
    let r : v + 1 ≡ v + at c.args.trees.now.size.now v + 1 = omega (arith, c.if-below-ne0.false) in
    rw (shifted_one (v % 64) (omega arith))
    (gathered_next c.requires.gathers.0 c.loop-w.invariant c.loop-w-test.true _ r)
