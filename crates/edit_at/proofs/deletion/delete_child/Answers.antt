-- `edit_at::deletion::delete_child` meets its contract: the sizes above the row fall, and each column closes up.
-- Assumes nothing.
use native.Mathlib.Omega.{arith}
use Rattle.tree.specs.Table.{Table, table_of}
use Rattle.edit_at.proofs.FoundLaws.{found_stands}
use Rattle.edit_at.proofs.DeleteLaws.{rows_fit, delete_made, low_in_use, child_passes, child_held}
use Rattle.edit_at.proofs.deletion.delete_child.Goals as goal
use Rattle.edit_at.proofs.deletion.delete_child.Goals.{Start}

-- the table that was lent
abbrev lent : Start → Table
lent s =
    table_of s.args.key.now s.args.size.now s.args.level.now s.args.kind.now s.args.name.now
    s.args.count

pub overflow_add-by : goal.overflow_add-by
overflow_add-by c =
    omega (
      arith,
      rows_fit (lent (goal.at.overflow_add-by c).Start) c.args.child.row c.requires.known,
      c.requires.known.sound.in_use,
    )

pub lower-requires : goal.lower-requires
lower-requires c = record {
  stands = found_stands c.requires;
  by_index = child_held (lent (goal.at.lower-requires c).Start) c.args.child c.requires;
}

pub close_rows-requires : goal.close_rows-requires
close_rows-requires c = record {
  in_use = low_in_use (lent (goal.at.close_rows-requires c).Start) c.args.child.row c.lower.ensures
      c.requires.known.sound.in_use;
  by_bound = rows_fit (lent (goal.at.close_rows-requires c).Start) c.args.child.row c.requires.known;
}

pub returns : goal.returns
returns c =
    delete_made (lent (goal.at.returns c).Start) c.args.child.row
    (child_passes (lent (goal.at.returns c).Start) c.args.child c.requires) c.lower.ensures
    c.close_rows.ensures
