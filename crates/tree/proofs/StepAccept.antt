-- When a step is accepted, in plain words. Its last two checks: `ask_passes` for the codes (as tests: `asked_parts`),
-- `room_passes` for room; those before are `table_passes` (SoundLaws.antt) and `pair_passes` (RoleLaws.antt). All
-- four: `step_passes`. Assumes nothing.
use mathlib.Core.Path.{◌≡◌, ap}
use mathlib.Core.Logic.{◌↔◌}
use mathlib.Core.Bool.{true, not}
use mathlib.Core.List.{List}
use Prim.Native.Nat.{ℕ, ◌≤◌, min}
use native.Mathlib.Omega.{arith}
use borrow.Author.Tests.{ltb-false, le-ltb, not-false}
use lib.ListN.{length}
use Rattle.tree.specs.Table.{Table}
use Rattle.tree.specs.Axis.{axis_ok}
use Rattle.tree.specs.Test.{test_ok}
use Rattle.tree.specs.Step.{Ask}
use Rattle.tree.specs.StepRules.{TestRule, StepFits}
use Rattle.tree.specs.Refusal.{ask_check, room_check, passed}
use Rattle.tree.specs.Outcome.{step_check}
use Rattle.tree.proofs.SoundLaws.{table_passes, next_passed, given_passed, given_not}
use Rattle.tree.proofs.RoleLaws.{pair_passes}
use Rattle.tree.proofs.AskLaws.{axis_ok_lem, test_ok_lem}

-- refusals 6 and 7 do not apply: both tests pass
pub asked_parts : (a : Ask) → ask_check a ≡ passed → (axis_ok a.axis ≡ true) × (test_ok a.test a.name ≡ true)
unfolding ask_check
asked_parts a e =
    let p = (next_passed _ _).0 e in
    (not-false _ (given_passed _ _ p.0), not-false _ (given_passed _ _ p.1))

-- they do not exactly if the axis is 1 to 11 and the test has the name that it needs
pub ask_passes : (a : Ask)
    → (ask_check a ≡ passed) ↔ (((1 ≤ a.axis) × (a.axis ≤ 11)) × TestRule a.test a.name)
unfolding ask_check
ask_passes a = (
  λ e. let p = asked_parts a e in ((axis_ok_lem _).0 p.0, (test_ok_lem _ _).0 p.1),
  λ h. (next_passed _ _).1 (
    given_not _ (ap not ((axis_ok_lem _).1 h.0)),
    given_not _ (ap not ((test_ok_lem _ _).1 h.1)),
  ),
)

-- refusal 8 does not apply exactly if both result columns have room
pub room_passes : (n : ℕ) (outRole outRow : List ℕ)
    → (room_check n outRole outRow ≡ passed) ↔ ((n ≤ length outRole) × (n ≤ length outRow))
unfolding room_check
room_passes n outRole outRow = (
  λ e. let l : n ≤ min (length outRole) (length outRow) = ltb-false _ _ (given_passed _ _ e) in
      (omega arith, omega arith),
  λ h. given_not _ (le-ltb (min (length outRole) (length outRow)) n (omega arith)),
)

-- a step is accepted exactly if everything fits
pub step_passes : (t : Table) (role row : List ℕ) (a : Ask) (outRole outRow : List ℕ)
    → (step_check t role row a outRole outRow ≡ passed) ↔ StepFits t role row a outRole outRow
unfolding step_check
step_passes t role row a outRole outRow = (there, back)
  where
    there : step_check t role row a outRole outRow ≡ passed → StepFits t role row a outRole outRow
    there e =
        let p = (next_passed _ _).0 e in
        let q = (next_passed _ _).0 p.1 in
        let r = (next_passed _ _).0 q.1 in
        let x = (ask_passes a).0 r.0 in
        let o = (room_passes _ outRole outRow).0 r.1 in
        record {
          sound = (table_passes t).0 p.0;
          pairs = (pair_passes role row t.count).0 q.0;
          axis = x.0;
          test = x.1;
          roles = o.0;
          rows = o.1;
        }

    back : StepFits t role row a outRole outRow → step_check t role row a outRole outRow ≡ passed
    back h =
        (next_passed _ _).1 (
          (table_passes t).1 h.sound,
          (next_passed _ _).1 (
            (pair_passes role row t.count).1 h.pairs,
            (next_passed _ _).1 (
              (ask_passes a).1 (h.axis, h.test),
              (room_passes _ outRole outRow).1 (h.roles, h.rows),
            ),
          ),
        )
