-- `bounds::link_span` meets its contract: a case for each of the two links. Assumes nothing.
use native.Mathlib.Omega.{arith}
use Rattle.bounds.proofs.SpanBoundLaws.{link_none, link_some}
use Rattle.bounds.proofs.link_span.Goals as goal

pub overflow_add-result : goal.overflow_add-result
overflow_add-result c =
    omega (arith, link_some c.args.size.now c.args.link c.if-link-eq0.false, c.requires.link_bound)

pub returns-then-link-eq0 : goal.returns-then-link-eq0
returns-then-link-eq0 c = link_none _ c.if-link-eq0.true

pub returns-else-link-eq0 : goal.returns-else-link-eq0
returns-else-link-eq0 c = link_some _ _ c.if-link-eq0.false
