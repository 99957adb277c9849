-- `edit_at::renaming::rename_at` meets its contract. Assumes nothing.
use mathlib.Core.Path.{refl, sym, ◌∙◌}
use Rattle.tree.specs.Table.{Table, table_of}
use Rattle.tree.specs.Edit.{rename_done, renamed}
use Rattle.tree.specs.Refusal.{rename_check}
use Rattle.tree.proofs.SoundLaws.{given_not}
use Rattle.edit_at.proofs.OutcomeLaws.{leaves, own_refused, own_passed}
use Rattle.tree.proofs.FindLaws.{given_refused}
use Rattle.edit_at.proofs.renaming.rename_at.Goals as goal
use Rattle.edit_at.proofs.renaming.rename_at.Goals.{Start}

-- the table that was lent
abbrev lent : Start → Table
lent s =
    table_of s.args.key.now s.args.size.now s.args.level.now s.args.kind.now s.args.name.now
    s.args.count

pub returns-then-unfit : goal.returns-then-unfit
unfolding rename_check
returns-then-unfit c =
    let t = lent (goal.at.returns-then-unfit c).Start in
    let unfit = sym c.unfit.ensures ∙ c.if-unfit.true in
    leaves t (own_refused _ _ t ((given_refused _ _ _).1 (unfit, refl)))

pub returns : goal.returns
unfolding rename_check rename_done renamed
returns c =
    leaves (renamed (lent (goal.at.returns c).Start) c.args.row c.args.new_name)
    (own_passed _ _ (lent (goal.at.returns c).Start) (given_not _ (sym c.unfit.ensures ∙ c.if-unfit.false)))
