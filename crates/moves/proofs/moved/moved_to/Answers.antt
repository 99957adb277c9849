-- `moves::moved::moved_to` meets its contract: the sum is a row number, so neither it nor a cast leaves its range.
-- Assumes nothing.
use Prim.Native.Nat.{ℕ, ◌≤◌}
use mathlib.Core.Path.{◌≡◌, sym, ap, ◌∙◌}
use native.Mathlib.Omega.{arith}
use lib.IntN.{ℤ, pos, nat_abs, ◌+ℤ◌}
use lib.Signed.{mag}
use mir.Syntax.{w64}
use mir.Val.{to_z, of_z}
use Rattle.tree.specs.CarryRules.{MoveFits}
use Rattle.tree.proofs.RowMoveLaws.{move_ok_lem}
use Rattle.moves.specs.Moves.{MovesRow}
use Rattle.moves.proofs.SignedLaws.{sum_fits, sum_is, fits_small, row_moves}
use Rattle.moves.proofs.moved.moved_to.Goals as goal

-- RAW
module _ {old first : ℕ} {moved : ℤ} {row : ℕ} (h : MovesRow old first moved row) where
  fits : MoveFits old first moved
  fits = (move_ok_lem old first moved).0 h.move

  small : mag moved ≤ 4096
  small = fits_small old first moved fits h.few

  lands : (n : ℕ) × (to_z w64 (of_z w64 (to_z w64 row +ℤ to_z w64 (of_z w64 moved))) ≡ pos n)
      × (pos row +ℤ moved ≡ pos n) × (n ≤ 4096)
  lands =
      let (n, e, l) = row_moves old first moved fits h.few row h.from h.within in
      (n, sum_is row moved (omega (arith, h.within, h.few)) small ∙ e, e, l)

pub overflow_add-new : goal.overflow_add-new
overflow_add-new c = sum_fits c.args.row c.args.moved (omega (arith, c.requires.within, c.requires.few))
    (small c.requires)

pub overflow_cast-result : goal.overflow_cast-result
overflow_cast-result c = let (n, e, _, l) = lands c.requires in rw e (tt, record { fits = omega arith })

pub returns : goal.returns
returns c = let (n, e, f, _) = lands c.requires in ap (λ (z : ℤ). pos (nat_abs z)) e ∙ sym f
