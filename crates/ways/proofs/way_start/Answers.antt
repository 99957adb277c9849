-- `ways::way_start` meets its contract: the column has the parent. Assumes nothing.
use borrow.Author.Tests.{eq-eqb, ne_eqb}
use Rattle.ways.specs.Above.{way_start}
use Rattle.ways.proofs.way_start.Goals as goal

pub returns-then-own-eq0 : goal.returns-then-own-eq0
unfolding way_start
returns-then-own-eq0 c =
    rw (eq-eqb _ 0 c.if-own-eq0.true) (c.requires.1.parents _ c.requires.0)

pub returns : goal.returns
unfolding way_start
returns c = rw (ne_eqb _ 0 c.if-own-eq0.false)
