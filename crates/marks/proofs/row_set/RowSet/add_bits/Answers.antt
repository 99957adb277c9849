-- `marks::row_set::RowSet::add_bits` meets its contract: `add_joined` says so of the words that it leaves. Assumes
-- nothing.
use Rattle.marks.proofs.RowSetLaws.{shifted_one}
use Rattle.marks.proofs.AddWordLaws.{add_joined, add_used}
use Rattle.marks.proofs.row_set.RowSet.add_bits.Goals as goal

pub invariant_of-self : goal.invariant_of-self
invariant_of-self c =
    rw (shifted_one c.args.j c.requires.0)
    (add_used c.self.invariant c.args.j c.args.bits c.requires.0 c.requires.1)

pub returns : goal.returns
returns c = rw (← c.self.view_is) (add_joined c.self.invariant c.args.j c.args.bits c.requires.0 c.ranges.bits.fits)
