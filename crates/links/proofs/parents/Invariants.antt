-- `links::parents` meets its contract. The loop's invariant, `Opened`: the rows before i have their parents,
-- and at each level up to that of the row before i the path has the last row of that level. Assumes nothing.
use Rattle.links.proofs.ParentPassLaws.{Opened}
use Rattle.links.proofs.parents.Given as goal

abbrev pub invariant-loop-i : goal.invariant-loop-i
invariant-loop-i l = Opened l.level l.trees.count l.all l.path l.i
