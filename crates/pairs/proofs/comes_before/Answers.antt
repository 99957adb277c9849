-- `pairs::comes_before` meets its contract: the tests, joined in the definition's order. Assumes nothing.
use mathlib.Core.Path.{refl}
use Rattle.tree.specs.Pairs.{before}
use Rattle.pairs.proofs.comes_before.Goals as goal

pub returns : goal.returns
unfolding before
returns c = refl
