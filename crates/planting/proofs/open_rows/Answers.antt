-- `planting::open_rows` meets its contract: the sizes from the row up rise, then a gap opens in each column.
-- Assumes nothing.
use native.Mathlib.Omega.{arith}
use Rattle.tree.specs.Table.{Table, table_of, seen}
use Rattle.edit_at.proofs.FoundLaws.{found_stands}
use Rattle.planting.proofs.InsertLaws.{Room, room, insert_made}
use Rattle.planting.proofs.open_rows.Goals as goal
use Rattle.planting.proofs.open_rows.Goals.{After-row_there-row, Start}

-- the table that was lent, and the piece
abbrev lent : Start → Table
lent s =
    table_of s.args.key.now s.args.size.now s.args.level.now s.args.kind.now s.args.name.now
    s.args.count

abbrev piece : Start → Table
piece s =
    seen s.args.piece.now

-- what the piece that fits tells of the columns
fits : (c : After-row_there-row)
    → Room (table_of c.args.key.now c.args.size.now c.args.level.now c.args.kind.now c.args.name.now
    c.args.count) c.row_there-row.result (seen c.args.piece.now)
fits c = room (table_of c.args.key.now c.args.size.now c.args.level.now c.args.kind.now c.args.name.now
    c.args.count) c.args.located (seen c.args.piece.now) c.requires _ c.row_there-row.ensures

pub overflow_add-gap : goal.overflow_add-gap
overflow_add-gap c =
    let h = fits (goal.at.overflow_add-gap c).After-row_there-row in
    omega (arith, h.gap, h.few)

pub raise-requires : goal.raise-requires
raise-requires c =
    (found_stands c.requires.found, (fits (goal.at.raise-requires c).After-row_there-row).of_few)

pub open_column-requires : goal.open_column-requires
open_column-requires c =
    let h = fits (goal.at.open_column-requires c).After-row_there-row in record {
      gap_le_n = omega (arith, h.gap);
      by_in_bounds = h.in_key;
      by_in_bounds_2 = h.of_key;
    }

pub open_column-requires-2 : goal.open_column-requires-2
open_column-requires-2 c =
    let h = fits (goal.at.open_column-requires-2 c).After-row_there-row in record {
      gap_le_n = omega (arith, h.gap);
      by_in_bounds = omega (arith, h.in_size);
      by_in_bounds_2 = h.of_size;
    }

pub open_column_raised-requires : goal.open_column_raised-requires
open_column_raised-requires c =
    let h = fits (goal.at.open_column_raised-requires c).After-row_there-row in record {
      gap_le_n = omega (arith, h.gap);
      by_in_bounds = h.in_level;
      by_in_bounds_2 = h.of_level;
      by_index = λ i l. omega (arith, h.low i l);
    }

pub open_column-requires-3 : goal.open_column-requires-3
open_column-requires-3 c =
    let h = fits (goal.at.open_column-requires-3 c).After-row_there-row in record {
      gap_le_n = omega (arith, h.gap);
      by_in_bounds = h.in_kind;
      by_in_bounds_2 = h.of_kind;
    }

pub open_column-requires-4 : goal.open_column-requires-4
open_column-requires-4 c =
    let h = fits (goal.at.open_column-requires-4 c).After-row_there-row in record {
      gap_le_n = omega (arith, h.gap);
      by_in_bounds = h.in_name;
      by_in_bounds_2 = h.of_name;
    }

pub after_insertion-requires : goal.after_insertion-requires
after_insertion-requires c = (fits (goal.at.after_insertion-requires c).After-row_there-row).few

pub returns : goal.returns
returns c =
    insert_made (lent (goal.at.returns c).Start) c.args.located
    (piece (goal.at.returns c).Start) c.requires _ c.row_there-row.ensures c.raise.ensures
    c.open_column.ensures c.open_column-2.ensures c.open_column_raised.ensures
    c.open_column-3.ensures c.open_column-4.ensures c.after_insertion.ensures
