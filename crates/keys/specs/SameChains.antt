-- What a call leaves of chains besides the rows in them: as many buckets, and the two columns that were lent, with as
-- much room. No contract of an entry point cites it. Assumes nothing.
use Rattle.std.specs.Prelude.{◌≡◌, length}
use Rattle.keys.specs.declared.Chains.{Chains}

pub record Same (old new : Chains) : Type 0 where
  pub shift : new.shift ≡ old.shift
  pub heads : new.heads.ghost_name ≡ old.heads.ghost_name
  pub next : new.next.ghost_name ≡ old.next.ghost_name
  pub heads_room : length new.heads.now ≡ length old.heads.now
  pub next_room : length new.next.now ≡ length old.next.now
