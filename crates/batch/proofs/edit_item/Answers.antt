-- `batch::edit_item` meets its contract: refusal 9, or the edit at the row of the key. Assumes nothing.
use native.Mathlib.Omega.{arith}
use Rattle.tree.proofs.SoundLaws.{sound_shape}
use Rattle.tree.proofs.LevelLaws.{has_parent}
use Rattle.batch.proofs.EditItemLaws.{item_missing, item_deletes, item_renames, row_found}
use Rattle.batch.proofs.edit_item.Goals as goal

pub returns-then-count-row : goal.returns-then-count-row
returns-then-count-row c =
    item_missing _ c.requires.sound _ (omega (arith, c.if-count-row.true, c.requires.row_value))

pub where_is-requires : goal.where_is-requires
where_is-requires c =
    let sound = c.requires.sound in (
      omega (arith, c.if-count-row.false, sound.in_use.in_level),
      λ h. omega (arith, (has_parent (sound_shape _ sound) _ c.if-count-row.false h).1),
    )

pub delete_at-requires : goal.delete_at-requires
delete_at-requires c =
    row_found _ c.requires.sound _ c.if-count-row.false c.where_is.ensures

pub returns-then-deletes : goal.returns-then-deletes
returns-then-deletes c =
    rw (item_deletes _ c.requires.sound c.args.item c.requires.row_value c.if-count-row.false c.if-deletes.true
    c.where_is.ensures) c.delete_at.ensures

pub returns : goal.returns
returns c =
    rw (item_renames _ c.requires.sound c.args.item c.requires.row_value c.if-count-row.false c.if-deletes.false)
    c.rename_at.ensures
