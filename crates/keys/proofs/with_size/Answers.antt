-- `keys::with_size` meets its contract: columns of zeros serve as chains in which no row is chained. Assumes nothing.
use lib.ListN.{length-replicate}
use Rattle.keys.proofs.KeyLaws.{zeros_empty}
use Rattle.keys.proofs.with_size.Goals as goal

pub returns : goal.returns
returns g c = (_, _, rw length-replicate c.requires.n_in_room, zeros_empty _ _ c.requires.wide, c.f.ensures)
