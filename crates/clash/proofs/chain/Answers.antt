-- `clash::chain` meets its contract: the first i rows are chained, with room for as many as before. Assumes nothing.
use mathlib.Core.Path.{refl}
use Rattle.keys.proofs.KeyLaws.{none_chained}
use Rattle.clash.proofs.chain.Goals as goal

pub loop-i-init : goal.loop-i-init
loop-i-init c = (refl, none_chained _ _ _ _ c.requires.empty)
