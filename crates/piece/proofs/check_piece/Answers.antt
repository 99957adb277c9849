-- `piece::check_piece` meets its contract: a piece that is not bad is sound. Assumes nothing.
use mathlib.Core.Path.{sym, ◌∙◌}
use native.Mathlib.Omega.{arith}
use Rattle.tree.specs.Table.{seen}
use Rattle.tree.specs.Rules.{Sound}
use Rattle.piece.proofs.PieceLaws.{piece_sound}
use Rattle.piece.proofs.check_piece.Goals as goal
use Rattle.piece.proofs.check_piece.Goals.{Else-bad_piece}

sound : (c : Else-bad_piece) → Sound (seen c.args.piece.now)
sound c = piece_sound _ (sym c.bad_piece.ensures ∙ c.if-bad_piece.false)

pub too_deep-requires : goal.too_deep-requires
too_deep-requires c =
    let v = sound (goal.at.too_deep-requires c).Else-bad_piece in
    let w = c.requires.sound.rows _ c.requires.in_use in record {
      n_in_bounds = v.in_use.in_level;
      by_index = (λ i l. (v.rows i l).levels.low, omega (arith, w.levels.low));
    }

pub first_clash-clash-requires : goal.first_clash-clash-requires
first_clash-clash-requires c =
    let v = sound (goal.at.first_clash-clash-requires c).Else-bad_piece in record {
      n_bound = (c.requires.sound.in_use.few, c.requires.sound.in_use.in_key);
      m_in_bounds = omega (arith, v.in_use);
    }

pub overflow_add-total : goal.overflow_add-total
overflow_add-total c =
    let v = sound (goal.at.overflow_add-total c).Else-bad_piece in
    omega (arith, v.in_use.few, c.requires.sound.in_use.few)
