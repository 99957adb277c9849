-- `span::own_rows` meets its contract. The invariant: the rows reached below pos are written, and the first i
-- contexts are below pos. Assumes nothing.
use mathlib.Core.Path.{◌≡◌}
use Prim.Native.Nat.{◌+◌, max}
use native.Mathlib.Omega.{arith}
use Rattle.std.proofs.Common.{rules}
use Rattle.tree.specs.Table.{at}
use Rattle.span.proofs.SpanLaws.{Spans, self_spans, turn_start, turn_asks, turn_next, turn_done}
use Rattle.span.proofs.own_rows.Goals as goal
use Rattle.span.proofs.own_rows.Goals.{Start}

-- a context is a range of one row
abbrev spans : (h : Start) → Spans 1 h.args.trees.now.level.now h.args.trees.now.count (λ c. c) (λ c. c)
spans h = self_spans h.args.trees.now.level.now h.args.trees.now.count

pub loop-c-init : goal.loop-c-init
loop-c-init c =
    turn_start c.requires (spans (goal.at.loop-c-init c).Start)

pub emit_one-next-requires : goal.emit_one-next-requires
emit_one-next-requires c =
    let p : c.max-from.result ≡ max c.loop-c.pos (at c.args.rows.now c.loop-c.c-index) = search rules in
    let q : c.max-to.result ≡ max c.max-from.result (at c.args.rows.now c.loop-c.c-index + 1) = search rules in
    (omega arith, turn_asks c.requires (spans (goal.at.emit_one-next-requires c).Start) c.loop-c.invariant c.loop-c-test.true p q)

pub loop-c-preserved : goal.loop-c-preserved
loop-c-preserved c =
    turn_next c.requires (spans (goal.at.loop-c-preserved c).Start) c.loop-c.invariant c.loop-c-test.true
    (search rules) (search rules) c.emit_one-next.ensures

pub returns : goal.returns
returns c =
    turn_done c.requires (spans (goal.at.returns c).Start) c.loop-c.invariant c.loop-c-test.false
