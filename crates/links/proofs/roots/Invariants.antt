-- `links::roots` meets its contract. The loop's invariant, `Rooted`: the rows before i have their roots; one tree
-- needs no loop. Assumes nothing.
use Rattle.links.proofs.RootedLaws.{Rooted}
use Rattle.links.proofs.roots.Given as goal

abbrev pub invariant-loop-i : goal.invariant-loop-i
invariant-loop-i l = Rooted l.level l.trees.count l.all l.root l.i
