-- `step::room::check_room` meets its contract: a bound that fits, or the count itself. Assumes nothing.
use borrow.Author.Tests.{lt-ltb, le-ltb}
use Rattle.tree.specs.Refusal.{given}
use Rattle.step.proofs.room.check_room.Goals as goal

pub returns-then-surely_fits : goal.returns-then-surely_fits
unfolding given
returns-then-surely_fits c = rw (le-ltb _ _ (c.surely_fits.ensures c.if-surely_fits.true))

pub returns-then-short : goal.returns-then-short
unfolding given
returns-then-short c = rw (← c.count_all-total.ensures, lt-ltb _ _ c.if-short.true)

pub returns : goal.returns
unfolding given
returns c = rw (← c.count_all-total.ensures, le-ltb _ _ c.if-short.false)
