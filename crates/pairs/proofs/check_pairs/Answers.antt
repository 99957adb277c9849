-- `pairs::check_pairs` meets its contract: the refusals in their order. Assumes nothing.
use mathlib.Core.Path.{sym}
use borrow.Author.Tests.{lt-ltb, le-ltb, eq-eqb, ne_eqb}
use Rattle.tree.specs.Refusal.{given, given_at, next, pair_check}
use Rattle.tree.proofs.AcceptLaws.{neither}
use Rattle.pairs.proofs.PairLaws.{pair_check_is, pairs_pass}
use Rattle.pairs.proofs.check_pairs.Goals as goal

pub returns-then-role-row : goal.returns-then-role-row
unfolding pair_check given next
returns-then-role-row c = simp (ne_eqb _ _ c.if-role-row.true)

pub returns-then-too_long : goal.returns-then-too_long
unfolding pair_check given next
returns-then-too_long c = simp (eq-eqb _ _ c.if-role-row.false, lt-ltb _ _ c.if-too_long.true)

pub returns-then-not-wrong : goal.returns-then-not-wrong
returns-then-not-wrong c =
    let none = neither _ _ c.if-not-wrong.true in
    sym (pairs_pass _ _ _ c.if-role-row.false
    c.if-too_long.false
    (c.falls_somewhere.ensures none.0)
    (c.leaves_somewhere.ensures none.1))

pub returns-then-disorder-role : goal.returns-then-disorder-role
unfolding given given_at next
returns-then-disorder-role c = rw (
  pair_check_is _ _ _ c.if-role-row.false
      c.if-too_long.false,
  ← c.first_disorder-disorder.ensures,
  lt-ltb _ _ c.if-disorder-role.true,
)

pub returns-then-outside-row : goal.returns-then-outside-row
unfolding given given_at next
returns-then-outside-row c = rw (
  pair_check_is _ _ _ c.if-role-row.false
      c.if-too_long.false,
  ← c.first_disorder-disorder.ensures,
  le-ltb _ _ c.if-disorder-role.false,
  ← c.first_outside-outside.ensures,
  lt-ltb _ _ c.if-outside-row.true,
)

pub returns : goal.returns
unfolding given given_at next
returns c = rw (
  pair_check_is _ _ _ c.if-role-row.false
      c.if-too_long.false,
  ← c.first_disorder-disorder.ensures,
  le-ltb _ _ c.if-disorder-role.false,
  ← c.first_outside-outside.ensures,
  le-ltb _ _ c.if-outside-row.false,
)
