-- `rules::kind_ok` meets its contract: the tests, joined in the definition's order. Assumes nothing.
use Rattle.tree.specs.Sound.{kind_ok}
use Rattle.rules.proofs.kind_ok.Goals as goal

pub returns : goal.returns
unfolding kind_ok
returns c = cc
