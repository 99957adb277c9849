-- `keys::Chains::key_ok` meets its contract: the key is 0, or a walk along its chain says whether it is new. Assumes
-- nothing.
use mathlib.Core.Path.{sym}
use Rattle.keys.proofs.KeyLaws.{key_zero, key_new}
use Rattle.keys.proofs.Chains.key_ok.Goals as goal

pub returns-then-zero : goal.returns-then-zero
returns-then-zero c = sym (key_zero _ _ c.if-zero.true)

pub returns : goal.returns
returns c = rw c.row_in.ensures (key_new _ _ c.if-zero.false)
