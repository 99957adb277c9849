-- `bounds::parent_spans` meets its contract. The invariant: the parents of the rows before place i are added up.
-- Assumes nothing.
use native.Mathlib.Omega.{arith}
use Rattle.std.proofs.lemmas.List.Sums.{sum_by_more_le}
use Rattle.bounds.specs.Bounds.{parent_span}
use Rattle.bounds.proofs.SpanBoundLaws.{link_inside, parent_span_small, parent_spans_small}
use Rattle.bounds.proofs.parent_spans.Goals as goal

pub link_span-sum-requires : goal.link_span-sum-requires
link_span-sum-requires c =
    let s = c.args.trees.now.shape in
    let row = c.requires.few_rows.inside c.loop-c.c-index c.loop-c-test.true in record {
      link_in_bounds = link_inside s _ row c.requires.parents;
      link_bound = parent_span_small s _ row c.requires.parents;
    }

pub overflow_add-sum : goal.overflow_add-sum
overflow_add-sum c =
    let a = c.args in omega (
      arith,
      sum_by_more_le (parent_span a.trees.now.size.now a.up.now) a.row.now c.loop-c.c-index 0 c.loop-c-test.true,
      parent_spans_small c.requires.few_rows c.requires.parents,
      c.link_span-sum.ensures,
      c.loop-c.invariant,
    )
