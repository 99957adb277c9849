-- `following::rows_after` meets its contract. The invariant: the trees of the contexts before number i are done.
-- Assumes nothing.
use native.Mathlib.Omega.{arith}
use Rattle.scan.proofs.TreeContextLaws.{turn_less}
use Rattle.following.proofs.AfterLaws.{after_start, after_done, after_ends, after_asks, after_turn}
use Rattle.following.proofs.rows_after.Goals as goal

pub loop-i-init : goal.loop-i-init
loop-i-init c = after_start c.requires.role_in c.requires.roots

pub first_after-from-requires : goal.first_after-from-requires
first_after-from-requires c =
    after_ends c.requires.role_in c.requires.roots c.loop-i.invariant c.loop-i-test.true c.past_tree-j.ensures

pub emit-next-requires : goal.emit-next-requires
emit-next-requires c =
    after_asks c.requires.role_in c.requires.roots c.loop-i.invariant c.loop-i-test.true c.past_tree-j.ensures
    c.first_after-from.ensures

pub loop-i-smaller : goal.loop-i-smaller
loop-i-smaller c =
    let p = c.requires in
    let l = turn_less c.args.trees.now.shape p.role_in.contexts p.roots c.loop-i-test.true c.past_tree-j.ensures in
    omega arith

pub loop-i-preserved : goal.loop-i-preserved
loop-i-preserved c =
    after_turn c.requires.role_in c.requires.roots c.loop-i.invariant c.loop-i-test.true c.past_tree-j.ensures
    c.first_after-from.ensures c.emit-next.ensures

pub returns : goal.returns
returns c = after_done c.requires.role_in c.requires.roots c.loop-i.invariant c.loop-i-test.false
