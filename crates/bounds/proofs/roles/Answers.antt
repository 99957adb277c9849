-- `bounds::roles` meets its contract. The invariant: the roles of the first i places are counted. Assumes nothing.
use native.Mathlib.Omega.{arith}
use Rattle.std.proofs.Common.{rules}
use Rattle.bounds.proofs.RoleBoundLaws.{roles_none, roles_start, roles_more, roles_fit, roles_done}
use Rattle.bounds.proofs.roles.Goals as goal

pub returns-then-is_empty : goal.returns-then-is_empty
returns-then-is_empty c = roles_none _ (search rules)

pub loop-i-init : goal.loop-i-init
loop-i-init c = roles_start (search rules)

pub overflow_add-found : goal.overflow_add-found
overflow_add-found c = roles_fit c.loop-i.invariant c.loop-i-test.true (search rules) (omega arith)

pub loop-i-preserved : goal.loop-i-preserved
loop-i-preserved c = roles_more c.loop-i.invariant c.loop-i-test.true (search rules)

pub returns : goal.returns
returns c = roles_done c.loop-i.invariant c.loop-i-test.false
