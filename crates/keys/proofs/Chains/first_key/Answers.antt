-- `keys::Chains::first_key` meets its contract. The invariant: the rows below i are chained by bucket, with room for as
-- many as before, and the key of each is good. Assumes nothing.
use mathlib.Core.Path.{sym, ap, ◌∙◌}
use mathlib.Core.Bool.{not}
use Rattle.tree.proofs.SearchLaws.{least_at, least_end}
use Rattle.keys.specs.FirstKey.{first_key}
use Rattle.keys.proofs.KeyLaws.{none_chained, same_start}
use borrow.Author.Count.{below_none}
use borrow.Author.Rules.{rules}
use Rattle.keys.proofs.Chains.first_key.Goals as goal

pub loop-i-init : goal.loop-i-init
loop-i-init c = (
  search rules,
  same_start _,
  none_chained _ _ _ _ c.requires.empty,
  below_none _,
)

pub returns-then-not-key_ok-clause-value : goal.returns-then-not-key_ok-clause-value
unfolding first_key
returns-then-not-key_ok-clause-value c =
    sym (least_at _ _ _ c.loop-i-test.true c.loop-i.invariant.3
    (ap not (sym c.key_ok.ensures) ∙ (ap not c.if-not-key_ok.true)))

pub returns-clause-value : goal.returns-clause-value
unfolding first_key
returns-clause-value c =
    least_end _ _ _ c.loop-i.invariant.0 c.loop-i-test.false c.loop-i.invariant.3
