-- `keys::bucket` meets its contract: the upper bits of a number below 2^32. Assumes nothing.
use mathlib.Core.Path.{refl}
use Rattle.keys.specs.Chain.{bucket_of}
use Rattle.keys.proofs.KeyLaws.{bucket_lt}
use Rattle.keys.proofs.bucket.Goals as goal

pub returns : goal.returns
unfolding bucket_of
returns c = rw c.spread.ensures (refl, bucket_lt _ _ c.requires)
