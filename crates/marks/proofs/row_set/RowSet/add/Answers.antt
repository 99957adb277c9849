-- `marks::row_set::RowSet::add` meets its contract: the word has the row's bit alone. Assumes nothing.
use Prim.Native.Nat.{◌%◌}
use mathlib.Core.Path.{ap, ◌∙◌}
use mathlib.Core.Bool.{Bool, ◌||◌}
use native.Mathlib.Omega.{arith}
use Rattle.marks.specs.RowSet.{has}
use Rattle.marks.proofs.RowSetLaws.{shifted_one}
use Rattle.marks.proofs.AddWordLaws.{one_row, one_some}
use Rattle.marks.proofs.row_set.RowSet.add.Goals as goal

pub add_bits-requires : goal.add_bits-requires
add_bits-requires c =
    rw (shifted_one (c.args.x % 64) (omega arith)) (omega arith, one_some (c.args.x % 64))

pub returns : goal.returns
returns c =
    let j = rw (shifted_one (c.args.x % 64) (omega arith)) at c.add_bits.ensures in
    record { rows = λ w l. j.rows w l ∙ ap (λ (t : Bool). t || has c.args.self.now w) (one_row c.args.x w) }
