-- `edit_at::deletion::delete_root` meets its contract: no size changes, and each column closes up. Assumes nothing.
use native.Mathlib.Omega.{arith}
use Rattle.tree.specs.Table.{Table, table_of}
use Rattle.edit_at.proofs.DeleteLaws.{rows_fit, delete_made, root_refused, root_passes, root_sizes}
use Rattle.edit_at.proofs.deletion.delete_root.Goals as goal
use Rattle.edit_at.proofs.deletion.delete_root.Goals.{Start}

-- the table that was lent
abbrev lent : Start → Table
lent s =
    table_of s.args.key.now s.args.size.now s.args.level.now s.args.kind.now s.args.name.now
    s.args.count

pub overflow_add-by : goal.overflow_add-by
overflow_add-by c =
    omega (
      arith,
      rows_fit (lent (goal.at.overflow_add-by c).Start) c.args.row c.requires.known,
      c.requires.known.sound.in_use,
    )

pub returns-then-only : goal.returns-then-only
returns-then-only c =
    root_refused (lent (goal.at.returns-then-only c).Start) c.args.row c.requires c.if-only.true

pub close_rows-requires : goal.close_rows-requires
close_rows-requires c = record {
  in_use = c.requires.known.sound.in_use;
  by_bound = rows_fit (lent (goal.at.close_rows-requires c).Start) c.args.row c.requires.known;
}

pub returns : goal.returns
returns c =
    delete_made (lent (goal.at.returns c).Start) c.args.row
    (root_passes (lent (goal.at.returns c).Start) c.args.row c.requires c.if-only.false)
    (root_sizes (lent (goal.at.returns c).Start) c.args.row c.requires _) c.close_rows.ensures
