-- `links::climbs` meets its contract, arm by arm. Assumes nothing.
use mathlib.Core.Path.{sym}
use native.Mathlib.Omega.{arith}
use Rattle.links.proofs.LinkAxisLaws.{climbs_triple, siblings_climb, climbs_not}
use Rattle.links.proofs.climbs.Goals as goal

pub returns-in-5-to-7 : goal.returns-in-5-to-7
returns-in-5-to-7 c = sym (climbs_triple _ (omega arith) (omega arith))

pub returns-in-5-to-7-2 : goal.returns-in-5-to-7-2
returns-in-5-to-7-2 c = sym (siblings_climb _ (omega arith) (omega arith))

pub returns-in_default : goal.returns-in_default
returns-in_default c = sym (climbs_not _ (λ l h. omega arith) (λ l h. omega arith))

pub returns-in_default-2 : goal.returns-in_default-2
returns-in_default-2 c = sym (climbs_not _ (λ l h. omega arith) (λ l h. omega arith))

pub returns-in_default-3 : goal.returns-in_default-3
returns-in_default-3 c = sym (climbs_not _ (λ l h. omega arith) (λ l h. omega arith))
