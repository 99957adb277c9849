-- When a step is accepted, as propositions: RULES 01, "The step", and "Refusal numbers" 1 to 8.
-- That the checks of Refusal say the same is `pair_passes` (proofs/RoleLaws.antt) and `step_passes`
-- (proofs/StepAccept.antt). Assumes nothing.
use Rattle.std.specs.Prelude.{◌≡◌, ◌⊎◌, false, List, ℕ, ◌<◌, ◌≤◌, length}
use Rattle.tree.specs.Table.{Table, at}
use Rattle.tree.specs.Rules.{Sound}
use Rattle.tree.specs.Pairs.{most_pairs, pairs_of, out_of_order}
use Rattle.tree.specs.Step.{Ask, step_list}

-- refusals 3 to 5 do not apply
pub record PairsFit (role row : List ℕ) (n : ℕ) : Type 0 where
  pub even : length role ≡ length row
  pub few : length role ≤ most_pairs
  pub order : (i : ℕ) → i < length role → out_of_order role row i ≡ false
  pub inside : (i : ℕ) → i < length role → at row i < n

-- tests run from 0 to 7; 2 and 6 need a name other than 0, the others need name 0
pub record TestRule (test name : ℕ) : Type 0 where
  pub most : test ≤ 7
  pub named : (test ≡ 2) ⊎ (test ≡ 6) → name ≡ 0 → ⊥
  pub plain : (test ≡ 2 → ⊥) → (test ≡ 6 → ⊥) → name ≡ 0

-- the table is sound, the pairs fit it, the axis is 1 to 11, the test has the name that it needs, and both result
-- columns have room for all lines
pub record StepFits (t : Table) (role row : List ℕ) (a : Ask) (outRole outRow : List ℕ) : Type 0 where
  pub sound : Sound t
  pub pairs : PairsFit role row t.count
  pub axis : (1 ≤ a.axis) × (a.axis ≤ 11)
  pub test : TestRule a.test a.name
  pub roles : length (step_list t a (pairs_of role row)) ≤ length outRole
  pub rows : length (step_list t a (pairs_of role row)) ≤ length outRow
