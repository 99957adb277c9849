-- `ways::climb` meets its contract. The loop's invariant, `Climbed`: the rows met are appended, and the others
-- are those of the way up from `at`. Assumes nothing.
use Prim.Native.Nat.{◌-◌, ◌<◌}
use mathlib.Core.Path.{sym, ◌∙◌}
use native.Mathlib.Omega.{arith}
use lib.ListN.{length}
use Rattle.ways.proofs.ClimbLaws.{climb_start, climb_yes, climb_no, climb_less, climb_done}
use Rattle.ways.proofs.ClimbLaws.{climb_room}
use Rattle.ways.proofs.climb.Goals as goal
use Rattle.ways.proofs.climb.Goals.{At-loop-link, Then-fits, else-fits, then-fits}

pub loop-link-init : goal.loop-link-init
loop-link-init c = climb_start c.requires

-- at a row that fits there is room for it
free : (c : Then-fits) → (let l = c.loop-link in l.next < length l.out)
free c =
    climb_room c.requires c.loop-link.invariant (c.loop-link.link - 1) (omega arith) c.loop-link-test.true
    (sym c.fits.ensures ∙ c.if-fits.true)

pub bounds-out-next : goal.bounds-out-next
bounds-out-next c = free (goal.at.bounds-out-next c).Then-fits

pub loop-link-smaller : goal.loop-link-smaller
loop-link-smaller c =
    climb_less c.requires c.loop-link.invariant (c.loop-link.link - 1) (omega arith) c.loop-link-test.true

pub loop-link-preserved : goal.loop-link-preserved
loop-link-preserved c =
    let m = c.loop-link-test.true in elim c.if-fits.branch [
      | then-fits w ↦ rw (w.out-is, w.next-is)
          (climb_yes c.requires c.loop-link.invariant (c.loop-link.link - 1) (omega arith) m
          (sym c.fits.ensures ∙ w.if-fits.true))
      | else-fits w ↦ rw (w.out-is, w.next-is)
          (climb_no c.requires c.loop-link.invariant (c.loop-link.link - 1) (omega arith) m
          (sym c.fits.ensures ∙ w.if-fits.false))
    ]

pub returns : goal.returns
returns c = climb_done c.requires c.loop-link.invariant c.loop-link-test.false
