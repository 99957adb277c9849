-- `items::check_list` meets its contract: lengths first, then codes. Assumes nothing.
use borrow.Author.Tests.{lt-ltb, le-ltb}
use Rattle.tree.specs.Search.{some_below}
use Rattle.tree.specs.Refusal.{given}
use Rattle.tree.specs.Batch.{list_check}
use Rattle.items.proofs.check_list.Goals as goal

pub returns-then-no_list : goal.returns-then-no_list
unfolding list_check given some_below
returns-then-no_list c = rw c.if-no_list.true

pub returns-then-wrong : goal.returns-then-wrong
unfolding list_check given some_below
returns-then-wrong c =
    rw (
      c.if-no_list.false,
      ← c.first_wrong-first.ensures,
      lt-ltb _ _ c.if-wrong.true,
    )

pub returns : goal.returns
unfolding list_check given some_below
returns c =
    rw (
      c.if-no_list.false,
      ← c.first_wrong-first.ensures,
      le-ltb _ _ c.if-wrong.false,
    )
