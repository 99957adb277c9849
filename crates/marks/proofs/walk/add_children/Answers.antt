-- `marks::walk::add_children` meets its contract. The loop's invariant, `ChildrenAdded`: the children before row w
-- are in, and w is the next child, or not before the end. Assumes nothing.
use Prim.Native.Nat.{ℕ, ◌<◌}
use native.Mathlib.Omega.{arith}
use Rattle.marks.proofs.ChildWalkLaws.{row_in_use, walk_start, walk_nothing}
use Rattle.marks.proofs.ChildWalkLaws.{walk_gathers, walk_next, walk_done}
use Rattle.marks.proofs.WordChildLaws.{gathered_some}
use Rattle.marks.proofs.walk.add_children.Goals as goal
use Rattle.marks.proofs.walk.add_children.Goals.{Start}

-- the rows before the end are few
few : (c : Start) → (let a = c.args in (v : ℕ) → v < a.end → v < 4096)
few c v l =
    let s = c.args.trees.now.shape in let h = c.requires in omega (arith, row_in_use s h.row h.inside v l, s.few)

pub returns-then-end-from : goal.returns-then-end-from
returns-then-end-from c = walk_nothing c.requires c.if-end-from.true

pub holds-requires : goal.holds-requires
holds-requires c =
    omega (arith, few (goal.at.holds-requires c).Start _ c.if-end-from.false, c.requires.after)

pub loop-w-init : goal.loop-w-init
loop-w-init c = walk_start c.requires

pub word_end-requires : goal.word_end-requires
word_end-requires c = let l = c.loop-w-test.true in (l, few (goal.at.word_end-requires c).Start _ l)

pub add_bits-requires : goal.add_bits-requires
add_bits-requires c =
    let l = c.loop-w-test.true in let e = c.word_end.ensures in let g = c.children_in_word-s.ensures in (
      omega (arith, few (goal.at.add_bits-requires c).Start _ l),
      gathered_some (walk_gathers c.requires c.loop-w.invariant l e.1 e.0 e.2) g.0 (omega (arith, e.0, g.1)),
    )

pub loop-w-preserved : goal.loop-w-preserved
loop-w-preserved c =
    walk_next c.requires c.loop-w.invariant c.loop-w-test.true c.word_end.ensures.1 c.children_in_word-s.ensures.0
    c.add_bits.ensures

pub returns : goal.returns
returns c = walk_done c.requires c.loop-w.invariant c.loop-w-test.false
