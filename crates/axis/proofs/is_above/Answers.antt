-- `axis::is_above` meets its contract, arm by arm. Assumes nothing.
use mathlib.Core.Path.{sym}
use native.Mathlib.Omega.{arith}
use Rattle.axis.proofs.RoleAxisLaws.{above_pair, above_not}
use Rattle.axis.proofs.is_above.Goals as goal

pub returns-in-6-to-7 : goal.returns-in-6-to-7
returns-in-6-to-7 c = sym (above_pair _ (omega arith) (omega arith))

pub returns-in_default : goal.returns-in_default
returns-in_default c = sym (above_not _ (λ l h. omega arith))

pub returns-in_default-2 : goal.returns-in_default-2
returns-in_default-2 c = sym (above_not _ (λ l h. omega arith))
