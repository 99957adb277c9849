-- `keys::Chains::first_key` meets its contract. The invariant: the rows below i are chained by bucket, with room for as
-- many as before, and the key of each is good. Assumes nothing.
use Prim.Native.Nat.{ℕ, ◌≤◌, ◌<◌, ◌-◌}
use mathlib.Core.Path.{◌≡◌}
use mathlib.Core.Bool.{not, false}
use Rattle.tree.specs.Sound.{key_ok}
use Rattle.keys.specs.Chain.{Chained}
use Rattle.keys.specs.SameChains.{Same}
use Rattle.keys.proofs.Chains.first_key.Given as goal

abbrev pub invariant-loop-i : goal.invariant-loop-i
invariant-loop-i l =
    (l.i ≤ l.n) × Same l.initial.self l.self
    × Chained l.self.shift l.key l.self.heads.now l.self.next.now l.i
    × ((j : ℕ) → j < l.i → not (key_ok l.key j) ≡ false)

abbrev pub decreases-loop-i : goal.decreases-loop-i
decreases-loop-i l = l.n - l.i
