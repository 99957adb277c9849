-- `links::above` meets its contract. Assumes nothing.
use borrow.Author.Tests.{eq-eqb, ne_eqb}
use Rattle.links.specs.Links.{above_of}
use Rattle.links.proofs.above.Goals as goal

pub returns-then-l-eq0 : goal.returns-then-l-eq0
unfolding above_of
returns-then-l-eq0 c = simp (eq-eqb _ _ c.if-l-eq0.true)

pub returns-else-l-eq0 : goal.returns-else-l-eq0
unfolding above_of
returns-else-l-eq0 c = simp (ne_eqb _ _ c.if-l-eq0.false)
