-- `kept_rows::count_ends` meets its contract. The invariant: the first i places are counted. Assumes nothing.
use Prim.Native.Nat.{ℕ, ◌-◌, ◌<◌, ◌≤◌}
use mathlib.Core.Path.{◌≡◌}
use mathlib.Core.Bool.{Bool}
use Rattle.tree.specs.Table.{at}
use Rattle.kept_rows.specs.Ends.{ends}
use Rattle.kept_rows.proofs.count_ends.Given as goal

abbrev pub invariant-loop-i : goal.invariant-loop-i
invariant-loop-i g l = (l.kept ≤ l.i) × ((f : ℕ → Bool)
    → ((k : ℕ) (b : Bool) → 0 < k → k < l.i → goal.F-post g l.test (at l.rows (k - 1)) (at l.rows k) b → b ≡ f k)
    → l.kept ≡ ends f (l.i - 1))
