-- `piece::bad_piece` meets its contract. Assumes nothing.
use mathlib.Core.Path.{◌≡◌, sym, ap, ◌∙◌}
use native.Mathlib.Omega.{arith}
use Rattle.std.specs.Prelude.{is_err}
use Rattle.tree.specs.Table.{seen}
use Rattle.tree.specs.Refusal.{passed}
use Rattle.tree.specs.Outcome.{check_outcome}
use Rattle.piece.proofs.PieceLaws.{no_error, piece_refused, piece_passed, piece_rows}
use Rattle.piece.proofs.bad_piece.Goals as goal
use Rattle.piece.proofs.bad_piece.Goals.{Else-is_err}

-- the piece passed
good : (c : Else-is_err) → check_outcome (seen c.args.piece.now) ≡ passed
good c = sym c.check_columns.ensures ∙ no_error _ (sym c.is_err.ensures.value ∙ c.if-is_err.false)

pub returns-then-is_err : goal.returns-then-is_err
returns-then-is_err c =
    piece_refused _ (ap is_err (sym c.check_columns.ensures) ∙ sym c.is_err.ensures.value ∙ c.if-is_err.true)

pub bounds-kind-0 : goal.bounds-kind-0
bounds-kind-0 c = (piece_rows _ (good (goal.at.bounds-kind-0 c).Else-is_err)).0

pub bounds-size-0 : goal.bounds-size-0
bounds-size-0 c = (piece_rows _ (good (goal.at.bounds-size-0 c).Else-is_err)).1

pub overflow_add-result : goal.overflow_add-result
overflow_add-result c = let r = piece_rows _ (good (goal.at.overflow_add-result c).Else-is_err) in omega arith

pub returns : goal.returns
returns c = piece_passed _ (good (goal.at.returns c).Else-is_err)
