-- `edit::delete` meets its contract: the refusal of the check or of the search, or the edit at the row found. Assumes
-- nothing.
use mathlib.Core.Path.{refl, sym, ◌∙◌}
use Rattle.std.proofs.lemmas.Result.{err_from_is_err_and}
use Rattle.tree.specs.Outcome.{check_outcome, delete_outcome}
use Rattle.tree.proofs.SoundLaws.{table_passes}
use Rattle.edit.proofs.KeyOutcomeLaws.{check_refused, key_missing, known, delete_found}
use Rattle.edit.proofs.delete.Goals as goal

pub returns-in_err-check_columns : goal.returns-in_err-check_columns
unfolding delete_outcome
returns-in_err-check_columns c =
    let p = err_from_is_err_and c.from_residual.result c.from_residual.ensures.1 in
    rw (p.1, p.2) (check_refused _ _ _ _ _ c.check_columns.ensures c.in_err-check_columns.was refl)

pub locate-found-requires : goal.locate-found-requires
unfolding check_outcome
locate-found-requires c = (table_passes _).0 (sym c.check_columns.ensures ∙ c.in_ok-check_columns.was)

pub returns-in_default : goal.returns-in_default
unfolding delete_outcome
returns-in_default c =
    key_missing _ _ c.check_columns.ensures c.in_ok-check_columns.was c.locate-found.ensures _ _ _ c.in_default.is refl

pub delete_at-requires : goal.delete_at-requires
delete_at-requires c = known _ _ c.check_columns.ensures c.in_ok-check_columns.was c.locate-found.ensures c.in-Ok.is

pub returns : goal.returns
returns c =
    rw (delete_found _ _ c.check_columns.ensures c.in_ok-check_columns.was c.locate-found.ensures c.in-Ok.is)
    c.delete_at.ensures
