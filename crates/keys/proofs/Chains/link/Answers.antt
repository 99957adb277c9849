-- `keys::Chains::link` meets its contract: one more row is chained. Assumes nothing.
use mathlib.Core.Path.{refl}
use native.Mathlib.Omega.{arith}
use lib.ListN.{length-set}
use Rattle.keys.proofs.KeyLaws.{chained_more}
use Rattle.keys.proofs.Chains.link.Goals as goal

pub returns : goal.returns
returns c =
    let before = c.args.self.now in record {
      value = refl;
      room = length-set _ _ _;
      same = record {
        shift = refl;
        heads = refl;
        next = refl;
        heads_room = length-set _ _ _;
        next_room = length-set _ _ _;
      };
      chained_2 = rw c.bucket-b.ensures.0
          (chained_more _ _ _ _ c.args.i before.low before.wide (omega arith) c.requires.chained);
    }
