-- `keys::row_of` meets its contract. The invariant: no row below k has the key. Assumes nothing.
use mathlib.Core.Path.{sym}
use borrow.Author.Tests.{eq-eqb}
use Rattle.tree.proofs.SearchLaws.{least_at, least_end}
use Rattle.tree.specs.Sound.{row_of}
use Rattle.keys.proofs.row_of.Goals as goal

pub returns-then-key-k : goal.returns-then-key-k
unfolding row_of
returns-then-key-k c =
    sym (least_at _ _ _ c.loop-k-test.true c.loop-k.invariant.1
    (eq-eqb _ _ c.if-key-k.true))

pub returns : goal.returns
unfolding row_of
returns c = least_end _ _ _ c.loop-k.invariant.0 c.loop-k-test.false c.loop-k.invariant.1
