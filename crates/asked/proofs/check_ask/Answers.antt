-- `asked::check_ask` meets its contract: 6 before 7. Assumes nothing.
use Rattle.tree.specs.Refusal.{given, next, ask_check}
use Rattle.asked.proofs.check_ask.Goals as goal

pub returns-then-not-axis_ok : goal.returns-then-not-axis_ok
unfolding ask_check given next
returns-then-not-axis_ok c = simp (← c.axis_ok.ensures, c.if-not-axis_ok.true)

pub returns-then-not-test_ok : goal.returns-then-not-test_ok
unfolding ask_check given next
returns-then-not-test_ok c = simp (
  ← c.axis_ok.ensures,
  c.if-not-axis_ok.false,
  ← c.test_ok.ensures,
  c.if-not-test_ok.true,
)

pub returns : goal.returns
unfolding ask_check given next
returns c = simp (
  ← c.axis_ok.ensures,
  c.if-not-axis_ok.false,
  ← c.test_ok.ensures,
  c.if-not-test_ok.false,
)
