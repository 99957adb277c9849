-- `keys::spread` meets its contract: its two products are below 2^63 each. Assumes nothing.
use mathlib.Core.Path.{refl}
use Rattle.keys.specs.Chain.{spread_of}
use Rattle.keys.proofs.spread.Goals as goal

pub returns : goal.returns
unfolding spread_of
returns c = refl
