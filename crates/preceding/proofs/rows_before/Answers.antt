-- `preceding::rows_before` meets its contract. The invariants: the trees of the contexts before number i are done;
-- in the tree that is being written, the rows below w are written. Assumes nothing.
use native.Mathlib.Omega.{arith}
use Rattle.scan.proofs.SideLaws.{nests}
use Rattle.scan.proofs.TreeContextLaws.{turn_less}
use Rattle.preceding.proofs.BeforeLaws.{before_start, before_tree, last_in_lem, before_asks}
use Rattle.preceding.proofs.BeforeLaws.{before_next, before_turn, before_done}
use Rattle.preceding.proofs.rows_before.Goals as goal

pub overflow_sub-c : goal.overflow_sub-c
overflow_sub-c c =
    let p = c.requires in
    let l = turn_less c.args.trees.now.shape p.role_in.contexts p.roots c.loop-i-test.true c.past_tree-j.ensures in
    omega arith

pub loop-i-init : goal.loop-i-init
loop-i-init c = before_start c.requires.role_in c.requires.roots

pub loop-w-init : goal.loop-w-init
loop-w-init c = before_tree c.requires.role_in c.requires.roots c.loop-i-test.true c.past_tree-j.ensures

pub next_open-open-requires : goal.next_open-open-requires
next_open-open-requires c =
    let l = last_in_lem c.requires.role_in c.requires.roots c.loop-i-test.true c.past_tree-j.ensures in
    (nests c.args.trees.now.shape, omega arith, l.1)

pub emit-next-requires : goal.emit-next-requires
emit-next-requires c =
    before_asks c.requires.role_in c.requires.roots c.loop-i-test.true c.past_tree-j.ensures
    c.loop-w.invariant c.loop-w-test.true c.next_open-open.ensures c.loop-i.invariant

pub loop-w-preserved : goal.loop-w-preserved
loop-w-preserved c =
    before_next c.requires.role_in c.requires.roots c.loop-i-test.true c.past_tree-j.ensures
    c.loop-w.invariant c.loop-w-test.true c.next_open-open.ensures c.emit-next.ensures

pub loop-i-smaller : goal.loop-i-smaller
loop-i-smaller c =
    let p = c.requires in
    let l = turn_less c.args.trees.now.shape p.role_in.contexts p.roots c.loop-i-test.true c.past_tree-j.ensures in
    omega arith

pub loop-i-preserved : goal.loop-i-preserved
loop-i-preserved c =
    before_turn c.requires.role_in c.requires.roots c.loop-i-test.true c.past_tree-j.ensures
    c.loop-i.invariant c.loop-w.invariant c.loop-w-test.false

pub returns : goal.returns
returns c = before_done c.requires.role_in c.requires.roots c.loop-i.invariant c.loop-i-test.false
