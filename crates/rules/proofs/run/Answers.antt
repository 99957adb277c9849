-- `rules::run` meets its contract. The invariant: every level below place k is above top. Assumes nothing.
use mathlib.Core.Path.{sym}
use native.Mathlib.Omega.{arith}
use borrow.Author.Tests.{le-leb}
use Rattle.tree.proofs.SearchLaws.{least_at, least_none}
use Rattle.tree.specs.Sound.{run_of}
use Rattle.rules.proofs.run.Goals as goal

pub returns-then-level-top : goal.returns-then-level-top
unfolding run_of
returns-then-level-top c =
    sym (least_at _ _ _ c.loop-k-test.true c.loop-k.invariant (le-leb _ _ c.if-level-top.true))

pub returns : goal.returns
unfolding run_of
returns c = sym (least_none _ _ (λ k m. c.loop-k.invariant k (omega arith)))
