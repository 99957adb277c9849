-- `rows::one_pass::passed_in` meets its contract. The rows below i are followed: each has its size, or is unfinished
-- and stands in ends; and they are chained by their keys, which are good. Assumes nothing.
use mathlib.Core.Path.{sym, ◌∙◌}
use borrow.Author.Count.{below_more, below_none}
use Rattle.keys.proofs.KeyLaws.{none_chained, same_start, same_more}
use Rattle.rows.proofs.OnePassLaws.{followed_start, followed_more, followed_all}
use borrow.Author.Rules.{rules}
use Rattle.rows.proofs.one_pass.passed_in.Goals as goal
use Rattle.rows.proofs.one_pass.passed_in.Goals.{Else-not-kind_fits}

pub loop-i-init : goal.loop-i-init
loop-i-init c = (
  search rules,
  same_start _,
  none_chained _ _ _ _ c.requires.empty,
  followed_start _ c.requires.in_use,
  below_none _,
)

-- row i has passed all tests
pub loop-i-preserved : goal.loop-i-preserved
loop-i-preserved c =
    let fits = sym c.fits_in.ensures ∙ c.if-not-fits_in.false in
    let kinds = sym c.kind_fits.ensures ∙ c.if-not-kind_fits.false in
    let key = sym c.key_ok.ensures ∙ c.if-not-key_ok.false in
    rw c.link-after.ensures.value (
      search rules,
      same_more c.loop-i.invariant.1 c.link-after.ensures.same,
      c.link-after.ensures.chained_2,
      followed_more _ c.requires.in_use _ _ _ c.loop-i-test.true c.loop-i.invariant.3 fits kinds,
      below_more _ _ c.loop-i.invariant.4 key,
    )

pub returns : goal.returns
returns c = record {
  count_value = λ e. followed_all _ c.requires.in_use _ _
      c.loop-i.i e c.loop-i.invariant.3 c.loop-i.invariant.4;
  room = c.loop-i.invariant.1.next_room;
  same = c.loop-i.invariant.1;
  chained_2 = λ e. rw (← e) c.loop-i.invariant.2;
}
