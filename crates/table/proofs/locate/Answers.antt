-- `table::locate` meets its contract: a row above level 0 has a parent. Assumes nothing.
use native.Mathlib.Omega.{arith}
use Rattle.tree.proofs.SoundLaws.{sound_shape}
use Rattle.tree.proofs.LevelLaws.{has_parent}
use Rattle.table.proofs.locate.Goals as goal

pub where_is-requires : goal.where_is-requires
where_is-requires c = (
  omega (arith, c.requires.in_use.in_level),
  λ h. omega (arith, (has_parent (sound_shape _ c.requires) _ c.if-row-columns.true h).1),
)
