-- `rows::one_pass::passed_in` meets its contract. The rows below i are followed: each has its size, or is unfinished
-- and stands in ends; and they are chained by their keys, which are good. Assumes nothing.
use Prim.Native.Nat.{ℕ, ◌≤◌, ◌<◌, ◌-◌}
use mathlib.Core.Path.{◌≡◌}
use mathlib.Core.Bool.{true}
use Rattle.tree.specs.Table.{seen}
use Rattle.tree.specs.Sound.{key_ok}
use Rattle.keys.specs.Chain.{Chained}
use Rattle.keys.specs.SameChains.{Same}
use Rattle.rows.proofs.OnePassLaws.{Followed}
use Rattle.rows.proofs.one_pass.passed_in.Given as goal

abbrev pub invariant-loop-i : goal.invariant-loop-i
invariant-loop-i l =
    (l.i ≤ l.count) × Same l.initial.chains l.chains
    × Chained l.chains.shift l.key l.chains.heads.now l.chains.next.now l.i
    × Followed (seen l.columns) l.ends l.most l.i × ((j : ℕ) → j < l.i → key_ok l.key j ≡ true)

abbrev pub decreases-loop-i : goal.decreases-loop-i
decreases-loop-i l = l.count - l.i
