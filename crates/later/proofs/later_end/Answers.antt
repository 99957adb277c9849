-- `later::later_end` meets its contract: the column has the context's parent. Assumes nothing.
use Prim.Native.Nat.{◌+◌, ◌-◌, ◌<◌, ◌≤◌, suc}
use mathlib.Core.Path.{◌≡◌}
use native.Mathlib.Omega.{arith}
use lib.ListN.{length}
use Rattle.tree.specs.Table.{at}
use Rattle.tree.specs.Tree.{parent}
use Rattle.tree.proofs.SoundLaws.{shape_fits}
use Rattle.marks.proofs.LaterLaws.{later_parent}
use Rattle.later.proofs.later_end.Goals as goal
use Rattle.later.proofs.later_end.Goals.{Else-q-eq0}

-- the parent and its descendants are rows in use, of which there are few
within : (c : Else-q-eq0) → (let t = c.args.trees.now in
    let p = at c.args.up.now c.args.c - 1 in
    (p + at t.size.now p < t.count) × (t.count ≤ 4096) × (t.count ≤ length t.size.now))
within c =
    let t = c.args.trees.now in
    let p = at c.args.up.now c.args.c - 1 in
    let e : parent t.level.now c.args.c ≡ suc p = omega (arith, c.requires.0.parents c.args.c c.requires.1) in
    (shape_fits t.shape p (later_parent t.shape c.args.c p c.requires.1 e), t.shape.few, t.shape.in_size)

pub offset_bounds-trees-q : goal.offset_bounds-trees-q
offset_bounds-trees-q c = omega (arith, within (goal.at.offset_bounds-trees-q c).Else-q-eq0)

pub bounds-trees-q : goal.bounds-trees-q
bounds-trees-q c = omega (arith, within (goal.at.bounds-trees-q c).Else-q-eq0)

pub overflow_add-result-2 : goal.overflow_add-result-2
overflow_add-result-2 c = omega (arith, within (goal.at.overflow_add-result-2 c).Else-q-eq0)
