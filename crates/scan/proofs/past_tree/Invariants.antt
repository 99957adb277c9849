-- `scan::past_tree` meets its contract. The invariant: the contexts of numbers i to j are before row end, and
-- the last one is not. Assumes nothing.
use Prim.Native.Nat.{ℕ, ◌<◌, ◌≤◌}
use Rattle.tree.specs.Table.{at}
use Rattle.scan.proofs.past_tree.Given as goal

abbrev pub invariant-loop-j : goal.invariant-loop-j
invariant-loop-j l = (l.i ≤ l.j) × (l.j ≤ l.last) × ((k : ℕ) → l.i ≤ k → k < l.j → at l.rows k < l.end)
