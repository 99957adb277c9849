-- `lines::role_rows` meets its contract: the way up of a lone context, and the siblings, ask parts of what a
-- role asks, and write the same rows. Assumes nothing.
use native.Mathlib.Omega.{arith}
use borrow.Author.Tests.{eq-eqb}
use Rattle.tree.proofs.SoundLaws.{both_of}
use Rattle.axis.proofs.RoleAxisLaws.{lone_asks, role_as, sibling_parents}
use Rattle.lone.proofs.LoneLaws.{lone_path_lem}
use Rattle.lines.proofs.role_rows.Goals as goal

pub lone_rows-requires : goal.lone_rows-requires
lone_rows-requires c =
    lone_asks c.requires.role_ask (lone_path_lem _ _ _ c.requires.upward_value
    (both_of (eq-eqb _ _ c.if-rows-eq1.true) c.if-upward.true))

pub later_siblings-requires : goal.later_siblings-requires
later_siblings-requires c = record { ten = c.if-walk-eq10.true; role_ask = c.requires.role_ask }

pub rising_rows-requires : goal.rising_rows-requires
rising_rows-requires c =
    let rising = c.is_rising.ensures.0 c.if-is_rising.true in record {
      role_in = role_as rising.0 c.requires.role_ask.asks;
      parents = (sibling_parents c.args.walk.now rising.0 (omega arith) (omega arith), rising.1);
    }
