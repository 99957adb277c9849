use Rattle.std.proofs.Common.{◌≡◌, ◌↔◌, true, ℕ, ◌+◌, ◌<◌, ◌≤◌, get_or}
use Rattle.basics.proofs.one_of.Given as goal

abbrev pub invariant-loop-c : goal.invariant-loop-c
invariant-loop-c l =
    (l.met ≡ true) ↔ ((j : ℕ) × (l.from ≤ j) × (j < l.from + l.c-index) × (get_or l.column j 0 ≡ l.x))
