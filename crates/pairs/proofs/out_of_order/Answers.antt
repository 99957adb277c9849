-- `pairs::out_of_order` meets its contract: the first pair has none before it. Assumes nothing.
use borrow.Author.Tests.{eq-eqb, ne_eqb}
use Rattle.tree.specs.Pairs.{out_of_order}
use Rattle.pairs.proofs.out_of_order.Goals as goal

pub returns-then-i-eq0 : goal.returns-then-i-eq0
unfolding out_of_order
returns-then-i-eq0 c = simp (eq-eqb _ _ c.if-i-eq0.true)

pub returns : goal.returns
unfolding out_of_order
returns c = simp (ne_eqb _ _ c.if-i-eq0.false) c.comes_before.ensures
