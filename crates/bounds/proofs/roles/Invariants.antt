-- `bounds::roles` meets its contract. The invariant: the roles of the first i places are counted. Assumes nothing.
use Rattle.bounds.proofs.RoleBoundLaws.{Changed}
use Rattle.bounds.proofs.roles.Given as goal

abbrev pub invariant-loop-i : goal.invariant-loop-i
invariant-loop-i l = Changed l.role l.found l.i
