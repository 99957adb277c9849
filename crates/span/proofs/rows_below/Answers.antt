-- `span::rows_below` meets its contract. The invariant: the rows reached below pos are written, and the rows
-- of the first i contexts are below pos. Assumes nothing.
use Prim.Native.Nat.{◌+◌, ◌-◌, ◌<◌, ◌≤◌}
use native.Mathlib.Omega.{arith}
use Rattle.std.proofs.Common.{rules}
use lib.ListN.{length}
use Rattle.tree.specs.Table.{at}
use Rattle.tree.proofs.SoundLaws.{shape_fits}
use Rattle.span.proofs.SpanLaws.{Spans, below_spans, turn_start, turn_asks, turn_next, turn_done}
use Rattle.span.proofs.rows_below.Goals as goal
use Rattle.span.proofs.rows_below.Goals.{In-loop-c, Start}

-- the rows below a context are a range
abbrev spans : (h : Start) → (let a = h.args in
    Spans (4 - a.first) a.trees.now.level.now a.trees.now.count (λ c. c + a.first) (λ c. c + at a.trees.now.size.now c))
spans h = below_spans h.args.trees.now.shape h.args.first h.requires.0

-- the rows of the context are rows in use, of which there are few
inside : (c : In-loop-c) → (let a = c.args in
    let w = at a.rows.now c.loop-c.c-index in
    (w + at a.trees.now.size.now w < a.trees.now.count) × (a.trees.now.count ≤ 4096)
    × (a.trees.now.count ≤ length a.trees.now.size.now))
inside c =
    let p = c.requires.1 in
    let m = p.contexts.inside c.loop-c.c-index c.loop-c-test.true in
    let s = c.args.trees.now.shape in
    (shape_fits s _ m, s.few, s.in_size)

pub loop-c-init : goal.loop-c-init
loop-c-init c =
    turn_start c.requires.1 (spans (goal.at.loop-c-init c).Start)

pub overflow_add-c-in-loop-c : goal.overflow_add-c-in-loop-c
overflow_add-c-in-loop-c c = omega (arith, inside (goal.at.overflow_add-c-in-loop-c c).In-loop-c)

pub overflow_add-c-in-loop-c-2 : goal.overflow_add-c-in-loop-c-2
overflow_add-c-in-loop-c-2 c = omega (arith, inside (goal.at.overflow_add-c-in-loop-c-2 c).In-loop-c)

pub emit-next-requires : goal.emit-next-requires
emit-next-requires c =
    turn_asks c.requires.1 (spans (goal.at.emit-next-requires c).Start) c.loop-c.invariant c.loop-c-test.true
    (search rules) (search rules)

pub loop-c-preserved : goal.loop-c-preserved
loop-c-preserved c =
    turn_next c.requires.1 (spans (goal.at.loop-c-preserved c).Start) c.loop-c.invariant c.loop-c-test.true
    (search rules) (search rules) c.emit-next.ensures

pub returns : goal.returns
returns c =
    turn_done c.requires.1 (spans (goal.at.returns c).Start) c.loop-c.invariant c.loop-c-test.false
