-- `pairs_left::write_left` meets its contract: the pairs before place i that stay stand in front of the result
-- columns, and nothing behind the first `left` results is changed. The loop's invariant cannot name the columns as they
-- were before the fours, so it says this against any columns against which it held before the loop. Assumes nothing.
use Prim.Native.Nat.{ℕ, ◌-◌}
use mathlib.Core.List.{List}
use lib.ListN.{length}
use Rattle.pairs_left.specs.Left.{Ready, Writing}
use Rattle.pairs_left.proofs.write_left.Given as goal

abbrev pub invariant-loop-n : goal.invariant-loop-n
invariant-loop-n l =
    (oldRole oldRow : List ℕ) → Ready l.role l.row l.edit l.left oldRole oldRow
    → Writing l.role l.row l.edit l.left oldRole oldRow l.initial.out_role l.initial.out_row l.initial.n l.initial.i
    → Writing l.role l.row l.edit l.left oldRole oldRow l.out_role l.out_row l.n l.i

abbrev pub decreases-loop-n : goal.decreases-loop-n
decreases-loop-n l = length l.role - l.i
