-- `rules::size_ok` meets its contract: the run of the rows after i is the size that its levels give.
-- Assumes nothing.
use Rattle.tree.specs.Sound.{size_ok, size_of}
use Rattle.rules.proofs.size_ok.Goals as goal

pub returns : goal.returns
unfolding size_ok size_of
returns c = simp c.run-n.ensures
