-- `rules::run` meets its contract. The invariant: every level below place k is above top. Assumes nothing.
use Prim.Native.Nat.{ℕ, ◌<◌}
use mathlib.Core.Path.{◌≡◌}
use mathlib.Core.Bool.{false}
use lib.Dec.{leb}
use lib.ListN.{get_or}
use Rattle.rules.proofs.run.Given as goal

abbrev pub invariant-loop-k : goal.invariant-loop-k
invariant-loop-k l = (j : ℕ) → j < l.k → leb (get_or l.part j 0) l.top ≡ false
