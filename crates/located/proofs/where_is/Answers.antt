-- `located::where_is` meets its contract: a row of level 0 has no parent, any other the one that was searched for.
-- Assumes nothing.
use mathlib.Core.Path.{sym, ◌∙◌}
use native.Mathlib.Numerals.{add-one}
use Rattle.tree.proofs.TreeLaws.{parent_none}
use Rattle.tree.proofs.StandingLaws.{stands_root, stands_under}
use Rattle.located.proofs.where_is.Goals as goal

pub returns-then-root : goal.returns-then-root
returns-then-root c =
    let s = c in
    sym (stands_root s.args.level.now s.args.row
    (parent_none s.args.level.now s.args.row c.if-root.true))

pub returns : goal.returns
returns c =
    let s = c in
    sym (stands_under s.args.level.now s.args.row _ (c.parent_of-parent.ensures ∙ add-one _))
