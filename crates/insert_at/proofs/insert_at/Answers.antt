-- `insert_at::insert_at` meets its contract: the checks, then the piece in its place. Assumes nothing.
use mathlib.Core.Path.{sym, ap, ◌∙◌}
use Prim.Native.Nat.{ℕ}
use Rattle.std.proofs.lemmas.Result.{err_from_is_err_and}
use Rattle.tree.specs.Table.{Table, table_of, seen}
use Rattle.tree.specs.Refusal.{insert_check}
use Rattle.edit_at.proofs.OutcomeLaws.{leaves, own_refused}
use Rattle.insert_at.proofs.insert_at.Goals as goal
use Rattle.insert_at.proofs.insert_at.Goals.{After-check_piece, Start}

-- the table that was lent
abbrev lent : Start → Table
lent s =
    table_of s.args.key.now s.args.size.now s.args.level.now s.args.kind.now s.args.name.now s.args.count

pub returns-in_err-check_piece : goal.returns-in_err-check_piece
returns-in_err-check_piece c =
    let t : Table = lent (goal.at.returns-in_err-check_piece c).Start in
    let check = c.check_piece.ensures ∙ ap
    (λ (r : ℕ). insert_check t r (seen c.args.piece.now)) c.row_there-row.ensures in
    let p = err_from_is_err_and c.from_residual.result c.from_residual.ensures.1 in
    rw (p.1, p.2) (leaves t (own_refused _ _ t (sym check ∙ c.in_err-check_piece.was)))
