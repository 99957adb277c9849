-- `links::roots` meets its contract. The loop's invariant, `Rooted`: the rows before i have their roots; one tree
-- needs no loop. Assumes nothing.
use native.Mathlib.Omega.{arith}
use Rattle.tree.proofs.SoundLaws.{shape_fits}
use Rattle.links.proofs.RootedLaws.{rooted_next, rooted_lone}
use Rattle.links.proofs.roots.Goals as goal

pub overflow_add-trees : goal.overflow_add-trees
overflow_add-trees c =
    let s = c.args.trees.now.shape in omega (arith, shape_fits s 0 s.some, s.few)

pub returns-then-trees : goal.returns-then-trees
returns-then-trees c =
    rooted_lone c.args.trees.now.shape c.args.up.now c.requires c.if-trees.true

pub loop-i-preserved : goal.loop-i-preserved
loop-i-preserved c =
    rooted_next c.args.trees.now.shape c.loop-i.invariant c.loop-i-test.true c.root_at-root.ensures
