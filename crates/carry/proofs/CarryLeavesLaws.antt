-- Where the checks pass, the first moved row can be moved (`call_moves`). What carrying leaves, by the way it ends:
-- refused by a check (`leaves_refused`), without room (`leaves_full`), or with the new list, which is ready to be
-- written where there is room (`call_ready`), written (`leaves_written`).
-- `carry_only`: two ends that the contract of `carry` allows are the same. Assumes nothing.
use mathlib.Core.Path.{◌≡◌, refl, sym, ap, ◌∙◌}
use mathlib.Core.Bool.{true, not}
use mathlib.Core.List.{List}
use Prim.Native.Nat.{ℕ, ◌<◌, ◌≤◌, min}
use native.Mathlib.Omega.{arith}
use borrow.Author.Tests.{lt-ltb, le-ltb, leb-true, not-false}
use lib.Dec.{leb}
use lib.IntN.{ℤ, pos, ◌+ℤ◌}
use lib.ListN.{length}
use Rattle.tree.specs.Pairs.{Pair, pairs_of}
use Rattle.tree.specs.StepRules.{PairsFit}
use Rattle.tree.specs.Refusal.{given, next, pair_check, room_check, Checked, passed}
use Rattle.tree.specs.Carry.{carried, old_count_ok, move_ok, CarryOutcome, carry_if, carry_check, carry_outcome}
use Rattle.tree.proofs.SoundLaws.{both, next_passed, given_passed}
use Rattle.tree.proofs.AcceptLaws.{next_next}
use Rattle.tree.proofs.RoleLaws.{pair_passes}
use Rattle.carry.specs.CarryLeaves.{CarryLeaves}
use Rattle.moves.specs.Moves.{MovesRow}
use Rattle.pairs_left.specs.Left.{move_of, left_of, Ready, Carries}
use Rattle.tree.proofs.RowMoveLaws.{move_ok_lem}
use Rattle.pairs_left.proofs.StayLaws.{left_is}
use Rattle.tree.specs.Carry.{Carried}
use Rattle.std.specs.Prelude.{Err, Ok}
use Rattle.tree.specs.declared.Refusal.TheVariants.{TooManyResults, BadCount, BadMove}
use Rattle.tree.specs.declared.Refusal.{Refusal}

-- refusals 1, 3 to 5 and 17
abbrev pub call_checks : List ℕ → List ℕ → ℕ → ℕ → ℤ → Checked
call_checks role row old first moved =
    next (given (not (old_count_ok old)) BadCount)
    (next (pair_check role row old) (given (not (move_ok old first moved)) BadMove))

module _ (role row : List ℕ) (old first : ℕ) (moved : ℤ) (e : call_checks role row old first moved ≡ passed) where
  -- what the checks that passed say
  few : old ≤ 4096
  unfolding old_count_ok
  few = leb-true _ _ (both (leb 1 old) _ (not-false _ (given_passed _ _ ((next_passed _ _).0 e).0))).1

  pairs : PairsFit role row old
  pairs = (pair_passes role row old).0 ((next_passed _ _).0 ((next_passed _ _).0 e).1).0

  move : move_ok old first moved ≡ true
  move = not-false _ (given_passed _ _ ((next_passed _ _).0 ((next_passed _ _).0 e).1).1)

  -- the first moved row can be moved
  pub call_moves : MovesRow old first moved first
  call_moves =
      record { few = few; move = move; from = omega arith; within = ((move_ok_lem old first moved).0 move).within }

module _ (role row : List ℕ) (old first : ℕ) (moved : ℤ) (outRole outRow : List ℕ) where
  -- the new list
  abbrev new : List Pair
  new = carried first moved (pairs_of role row)

  -- the last check is that of the room
  room_last : carry_check role row old first moved outRole outRow
      ≡ next (call_checks role row old first moved) (room_check (length new) outRole outRow)
  unfolding carry_check
  room_last = next_next _ _ _ (room_check (length new) outRole outRow)

  -- refused by a check
  pub leaves_refused : (why : Refusal) → call_checks role row old first moved ≡ Err why
      → CarryLeaves (carry_outcome role row old first moved outRole outRow) (Err why) outRole outRow
  unfolding carry_outcome carry_if next
  leaves_refused why e =
      let c : carry_check role row old first moved outRole outRow ≡ Err why =
      room_last ∙ ap (λ (x : Checked). next x (room_check (length new) outRole outRow)) e in
      rw c (record { answers = refl; role_is = refl; row_is = refl })

  module _ (e : call_checks role row old first moved ≡ passed) where
    -- only the room is left to check
    room_only : carry_check role row old first moved outRole outRow ≡ room_check (length new) outRole outRow
    unfolding next
    room_only = room_last ∙ ap (λ (x : Checked). next x (room_check (length new) outRole outRow)) e

    module _ (to left : ℕ) (l : pos to ≡ pos first +ℤ moved) (m : left ≡ left_of to first row) where
      -- as many as are left are in the new list
      left_new : left ≡ length new
      left_new = m ∙ left_is old first moved to (move role row old first moved e) (sym l) role row
          (pairs role row old first moved e).even

      -- without room
      pub leaves_full : min (length outRole) (length outRow) < left
          → CarryLeaves (carry_outcome role row old first moved outRole outRow)
          (Err (TooManyResults left)) outRole outRow
      unfolding carry_outcome carry_if room_check given
      leaves_full h =
          rw (left_new, room_only, lt-ltb (min (length outRole) (length outRow)) (length new) (omega (arith, left_new)))
          (record { answers = refl; role_is = refl; row_is = refl })

      -- with room the list is ready to be written
      pub call_ready : left ≤ min (length outRole) (length outRow)
          → Ready role row (move_of old first moved to) left outRole outRow
      call_ready h = record {
        few = few role row old first moved e;
        pairs = pairs role row old first moved e;
        move = move role row old first moved e;
        lands = sym l;
        many = m;
        roles = omega arith;
        rows = omega arith;
      }

      -- and written
      pub leaves_written : {newRole new_row : List ℕ} → left ≤ min (length outRole) (length outRow)
          → Carries role row (move_of old first moved to) outRole outRow newRole new_row
          → CarryLeaves (carry_outcome role row old first moved outRole outRow) (Ok left) newRole new_row
      unfolding carry_outcome carry_if room_check given
      leaves_written h w =
          rw (left_new, room_only, le-ltb (min (length outRole) (length outRow)) (length new) (omega (arith, left_new)))
          (record { answers = refl; role_is = w.role_is; row_is = w.row_is })

-- two ends that the contract allows are the same
pub carry_only : {o : CarryOutcome} {x y : Carried} {a b c d : List ℕ} → CarryLeaves o x a b → CarryLeaves o y c d
    → (x ≡ y) × (a ≡ c) × (b ≡ d)
carry_only p q = (
  p.answers ∙ sym q.answers,
  p.role_is ∙ sym q.role_is,
  p.row_is ∙ sym q.row_is,
)
