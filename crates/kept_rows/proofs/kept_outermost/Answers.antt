-- `kept_rows::kept_outermost` meets its contract. The invariant: the rows kept below pos are counted, and the first i
-- contexts and their descendants lie before pos. Assumes nothing.
use Prim.Native.Nat.{◌+◌, ◌<◌, ◌≤◌}
use native.Mathlib.Omega.{arith}
use Rattle.std.proofs.Common.{rules}
use lib.ListN.{length}
use Rattle.tree.specs.Table.{at}
use Rattle.tree.proofs.SoundLaws.{shape_fits}
use Rattle.kept_rows.proofs.KeptOuterLaws.{outer_start, outer_turn, outer_done}
use Rattle.kept_rows.proofs.kept_outermost.Goals as goal
use Rattle.kept_rows.proofs.kept_outermost.Goals.{In-loop-c}

-- the context and its descendants are rows in use, of which there are few
inside : (c : In-loop-c) → (let a = c.args in let w = at a.rows.now c.loop-c.c-index in
    (w + at a.trees.now.size.now w < a.trees.now.count) × (a.trees.now.count ≤ 4096)
    × (a.trees.now.count ≤ length a.trees.now.size.now))
inside c =
    let s = c.args.trees.now.shape in
    (shape_fits s _ (c.requires.contexts.inside c.loop-c.c-index c.loop-c-test.true), s.few, s.in_size)

pub loop-c-init : goal.loop-c-init
loop-c-init c = outer_start c.requires

pub overflow_add-c : goal.overflow_add-c
overflow_add-c c = omega (arith, inside (goal.at.overflow_add-c c).In-loop-c)

pub overflow_add-c-in-loop-c : goal.overflow_add-c-in-loop-c
overflow_add-c-in-loop-c c = omega (arith, inside (goal.at.overflow_add-c-in-loop-c c).In-loop-c)

pub loop-c-preserved : goal.loop-c-preserved
loop-c-preserved c =
    outer_turn c.requires c.loop-c.invariant c.loop-c-test.true (search rules) c.max-pos.ensures

pub returns : goal.returns
returns c = outer_done c.requires c.loop-c.invariant c.loop-c-test.false
