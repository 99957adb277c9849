-- What the step of all roles asks for and leaves, once the call is known to be right. Assumes nothing.
use Rattle.std.specs.Prelude.{◌≡◌, List, ℕ, ◌≤◌, length}
use Rattle.tree.specs.Table.{Table}
use Rattle.tree.specs.Rules.{Sound}
use Rattle.tree.specs.Pairs.{Pair, roles_of, rows_of}
use Rattle.tree.specs.declared.Ask.{Ask}
use Rattle.tree.specs.Refusal.{pair_check, ask_check, passed}
use Rattle.scan.specs.OneRole.{Wrote}
use Rattle.links.specs.Links.{UpFor}

-- refusals 1 to 7 do not apply
pub record CallChecked (t : Table) (a : Ask) (role row : List ℕ) : Type 0 where
  pub sound : Sound t
  pub pairs : pair_check role row t.count ≡ passed
  pub asked : ask_check a ≡ passed

-- nor do they here, and up holds what the axis follows
pub record StepReady (t : Table) (a : Ask) (up role row : List ℕ) : Type 0 where
  pub call : CallChecked t a role row
  pub links : UpFor a.axis t.level t.count up

-- the result columns have room for these lines
pub record HasRoom (lines : List Pair) (outRole outRow : List ℕ) : Type 0 where
  pub roles : length lines ≤ length outRole
  pub rows : length lines ≤ length outRow

-- the result columns begin with these lines, and r says how many they are
pub record Lists (lines : List Pair) (outRole outRow : List ℕ) (r : ℕ) (newRole new_row : List ℕ) : Type 0 where
  pub roles : Wrote (roles_of lines) outRole r newRole
  pub rows : Wrote (rows_of lines) outRow r new_row
