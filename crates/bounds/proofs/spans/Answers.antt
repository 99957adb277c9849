-- `bounds::spans` meets its contract. The invariant: the rows before place i are added up. Assumes nothing.
use native.Mathlib.Omega.{arith}
use Rattle.std.proofs.lemmas.List.Sums.{sum_by_more_le}
use Rattle.bounds.specs.Bounds.{span_of}
use Rattle.bounds.proofs.SpanBoundLaws.{span_small, spans_small}
use Rattle.bounds.proofs.spans.Goals as goal

pub overflow_add-sum : goal.overflow_add-sum
overflow_add-sum c =
    omega (arith, span_small c.args.trees.now.shape _ (c.requires.inside c.loop-c.c-index c.loop-c-test.true))

pub overflow_add-sum-in-loop-c : goal.overflow_add-sum-in-loop-c
overflow_add-sum-in-loop-c c =
    omega (
      arith,
      sum_by_more_le (span_of c.args.trees.now.size.now) c.args.row.now c.loop-c.c-index 0 c.loop-c-test.true,
      spans_small c.requires,
      c.loop-c.invariant,
    )
