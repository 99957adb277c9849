-- `later::siblings_of_first` meets its contract: the later siblings of the first context are children of its
-- parent. Assumes nothing.
use Prim.Native.Nat.{◌+◌, ◌-◌, ◌<◌, ◌≤◌}
use mathlib.Core.Path.{◌≡◌, refl}
use native.Mathlib.Omega.{arith}
use lib.ListN.{length}
use Rattle.tree.specs.Table.{at}
use Rattle.tree.proofs.SoundLaws.{shape_fits}
use Rattle.scan.specs.OneRole.{Parents}
use Rattle.links.specs.declared.walk.Walk.{Walk}
use Rattle.axis.proofs.RoleAxisLaws.{sibling_parents}
use Rattle.later.proofs.OneParentLaws.{first_row, first_none, first_end, first_asks, first_done}
use Rattle.later.proofs.siblings_of_first.Goals as goal
use Rattle.later.proofs.siblings_of_first.Goals.{Else-q-eq0}

-- the parents are known
parents : (walk : Walk) → walk.axis ≡ 10 → Parents walk.trees.level.now walk.trees.count walk.up.now
parents walk e = sibling_parents walk e (omega arith) (omega arith)

pub returns-then-q-eq0 : goal.returns-then-q-eq0
returns-then-q-eq0 c =
    first_none c.requires.role_in (parents c.args.walk.now c.requires.ten) c.requires.one_parent c.if-q-eq0.true

-- the first context and its descendants are rows in use, of which there are few
below : (c : Else-q-eq0) → (let t = c.args.walk.now.trees in
    let w = at c.args.rows.now 0 in
    (w + at t.size.now w < t.count) × (t.count ≤ 4096))
below c =
    let s = c.args.walk.now.trees.shape in (
      shape_fits s _ (first_row c.requires.role_in
          (parents c.args.walk.now c.requires.ten) c.requires.one_parent),
      s.few,
    )

-- and so are its parent's
within : (c : Else-q-eq0) → (let t = c.args.walk.now.trees in
    let q = at c.args.walk.now.up.now (at c.args.rows.now 0) in
    (q + at t.size.now (q - 1) ≤ t.count) × (t.count ≤ 4096) × (t.count ≤ length t.size.now))
within c =
    let s = c.args.walk.now.trees.shape in
    let e = first_end c.requires.role_in
    (parents c.args.walk.now c.requires.ten) c.requires.one_parent c.if-q-eq0.false in
    (omega arith, s.few, s.in_size)

pub overflow_add-from : goal.overflow_add-from
overflow_add-from c = omega (arith, below (goal.at.overflow_add-from c).Else-q-eq0)

pub overflow_add-from-2 : goal.overflow_add-from-2
overflow_add-from-2 c = omega (arith, below (goal.at.overflow_add-from-2 c).Else-q-eq0)

pub offset_bounds-size-q : goal.offset_bounds-size-q
offset_bounds-size-q c = omega (arith, within (goal.at.offset_bounds-size-q c).Else-q-eq0)

pub bounds-size-q : goal.bounds-size-q
bounds-size-q c = omega (arith, within (goal.at.bounds-size-q c).Else-q-eq0)

pub overflow_add-end : goal.overflow_add-end
overflow_add-end c = omega (arith, within (goal.at.overflow_add-end c).Else-q-eq0)

pub append_children-requires : goal.append_children-requires
append_children-requires c =
    first_asks c.requires.role_in (parents c.args.walk.now c.requires.ten) c.requires.one_parent c.if-q-eq0.false refl

pub returns : goal.returns
returns c =
    first_done c.requires.role_in (parents c.args.walk.now c.requires.ten) c.requires.one_parent c.if-q-eq0.false refl
    c.append_children.ensures
