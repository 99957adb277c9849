-- `pairs::falls_somewhere` meets its contract: where nothing fell yet, the places below i are in order.
-- Assumes nothing.
use mathlib.Core.Path.{sym, ◌∙◌}
use Rattle.tree.proofs.AcceptLaws.{neither}
use Rattle.pairs.proofs.PairLaws.{order_first, order_next}
use Rattle.pairs.proofs.falls_somewhere.Goals as goal

pub loop-i-init : goal.loop-i-init
loop-i-init c e = order_first _ _

pub loop-i-preserved : goal.loop-i-preserved
loop-i-preserved c e =
    let both = neither _ _ e in
    order_next _ _ _ (c.loop-i.invariant both.0) (sym c.comes_before-falls.ensures ∙ both.1)
