-- `links::sides` meets its contract, arm by arm. Assumes nothing.
use mathlib.Core.Path.{sym}
use native.Mathlib.Omega.{arith}
use Rattle.links.proofs.LinkAxisLaws.{sides_pair, sides_not}
use Rattle.links.proofs.sides.Goals as goal

pub returns-in-8-to-9 : goal.returns-in-8-to-9
returns-in-8-to-9 c = sym (sides_pair _ (omega arith) (omega arith))

pub returns-in_default : goal.returns-in_default
returns-in_default c = sym (sides_not _ (λ l h. omega arith))

pub returns-in_default-2 : goal.returns-in_default-2
returns-in_default-2 c = sym (sides_not _ (λ l h. omega arith))
