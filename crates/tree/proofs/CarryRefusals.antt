-- The refusals of carrying pairs over an edit, in the order of RULES 02, E1, which gives 17 before 8: `old_refused`
-- (1), `carry_uneven` (3), `carry_order` (4), `carry_outside` (5), `move_refused` (17), `carry_room` (8). Each says
-- that no earlier one applies, then its own condition, then the place where the reason has one.
-- Assumes nothing.
use mathlib.Core.Path.{◌≡◌, refl, ap}
use mathlib.Core.Logic.Iff
use mathlib.Core.Logic.{◌↔◌}
use mathlib.Core.Bool.{not}
use mathlib.Core.List.{List, [], ◌∷◌}
use Prim.Native.Nat.{ℕ, ◌<◌, ◌≤◌, min}
use native.Mathlib.Omega.{arith}
use lib.IntN.{ℤ}
use lib.ListN.{length}
use Rattle.tree.specs.Table.{at}
use Rattle.tree.specs.Pairs.{Pair, pairs_of}
use Rattle.tree.specs.StepRules.{PairsFit}
use Rattle.tree.specs.Refusal.{given, next, room_check, Checked, passed}
use Rattle.tree.specs.Carry.{carried, old_count_ok, move_ok, carry_if, carry_check, carry_outcome}
use Rattle.tree.specs.CarryRules.{MoveFits}
use Rattle.tree.specs.RefusalRules.{Least, None, Uneven, Even, Falls, WrongOld, RightOld}
use Rattle.tree.proofs.RoleLaws.{pair_passes}
use Rattle.tree.proofs.RowMoveLaws.{move_ok_lem}
use Rattle.tree.proofs.CheckLaws.{Numbers, given_numbers, next_numbers, stop, skip, given_when, given_unless}
use Rattle.tree.proofs.CheckLaws.{le_iff, zero_iff, above_iff, not_passes_iff, not_iff, not_fails_iff, and_iff}
use Rattle.tree.proofs.CheckLaws.{nand_iff, flat_three, flat_four, flat_five}
use Rattle.tree.proofs.TableRefusals.{pair_gives, room_gives}
use Rattle.tree.proofs.StepRefusals.{uneven_pairs, falling_pairs, outside_pairs, no_room}
use Rattle.std.specs.Prelude.{Ok, Err}
use Rattle.tree.specs.declared.Refusal.TheVariants.{BadCount, BadPairColumns, PairOutOfOrder, PairOutsideTable}
use Rattle.tree.specs.declared.Refusal.TheVariants.{TooManyResults, BadMove}
use Rattle.tree.specs.declared.Refusal.{Refusal}

-- the answer says what the checks say
of_carried : (c : Checked) (new : List Pair) (outRole outRow : List ℕ) (why : Refusal)
    → ((carry_if c new outRole outRow).answer ≡ Err why) ↔ (c ≡ Err why)
unfolding carry_if
of_carried (Ok u) new outRole outRow why = (
  λ e. let z : ◌≡◌ {A = ℕ} 0 1 = cc in absurd (omega arith),
  λ e. let z : ◌≡◌ {A = ℕ} 0 1 = cc in absurd (omega arith),
)
of_carried (Err other) new outRole outRow why = (
  λ e. let z : other ≡ why = cc in ap Err z,
  λ e. let z : other ≡ why = cc in ap Err z,
)

module _ (role row : List ℕ) (old first : ℕ) (moved : ℤ) (outRole outRow : List ℕ) where
  -- the checks behind that of the pairs
  abbrev move_check : Checked
  move_check =
      next (given (not (move_ok old first moved)) BadMove)
      (room_check (length (carried first moved (pairs_of role row))) outRole outRow)

  move_gives : Numbers (17 ∷ 8 ∷ []) move_check
  move_gives = next_numbers (given_numbers _ _) (room_gives _ outRole outRow)

  -- the old count is 1 to 4,096
  right_old : (given (not (old_count_ok old)) BadCount ≡ passed) ↔ RightOld old
  unfolding old_count_ok
  right_old = given_unless _ (not_fails_iff (and_iff (le_iff _ _) (le_iff _ _)))

  -- 1: the old count is 0 or above 4,096
  pub old_refused : ((carry_outcome role row old first moved outRole outRow).answer ≡ Err BadCount)
      ↔ WrongOld old
  unfolding carry_outcome carry_check old_count_ok
  old_refused =
      Iff.trans (of_carried _ _ outRole outRow _)
      (stop (next_numbers (pair_gives role row old) move_gives) refl
      (given_when (not_passes_iff (nand_iff (zero_iff old) (above_iff old 4096)))))

  -- 3: pair columns differ in length or exceed 4,096
  pub carry_uneven : ((carry_outcome role row old first moved outRole outRow).answer ≡ Err BadPairColumns)
      ↔ (RightOld old × Uneven role row)
  unfolding carry_outcome carry_check
  carry_uneven =
      Iff.trans (of_carried _ _ outRole outRow _)
      (skip (given_numbers _ _) refl right_old (stop move_gives refl (uneven_pairs role row old)))

  -- 4: a pair is less than the one before it; the least such place
  pub carry_order : (p : ℕ) → ((carry_outcome role row old first moved outRole outRow).answer ≡ Err (PairOutOfOrder p))
      ↔ (RightOld old × Even role row × Least (Falls role row) (length role) p)
  unfolding carry_outcome carry_check
  carry_order p =
      Iff.trans (of_carried _ _ outRole outRow _)
      (flat_three (skip (given_numbers _ _) refl right_old (stop move_gives refl (falling_pairs role row old p))))

  -- 5: a pair's row is not below the old count; the least such place
  pub carry_outside : (p : ℕ)
      → ((carry_outcome role row old first moved outRole outRow).answer ≡ Err (PairOutsideTable p))
      ↔ (RightOld old × Even role row × None (Falls role row) (length role)
      × Least (λ i. old ≤ at row i) (length role) p)
  unfolding carry_outcome carry_check
  carry_outside p =
      Iff.trans (of_carried _ _ outRole outRow _)
      (flat_four (skip (given_numbers _ _) refl right_old (stop move_gives refl (outside_pairs role row old p))))

  -- 17: the move does not fit the old count
  pub move_refused : ((carry_outcome role row old first moved outRole outRow).answer ≡ Err BadMove)
      ↔ (RightOld old × PairsFit role row old × (MoveFits old first moved → ⊥))
  unfolding carry_outcome carry_check
  move_refused =
      Iff.trans (of_carried _ _ outRole outRow _)
      (flat_three (skip (given_numbers _ _) refl right_old
      (skip (pair_gives role row old) refl (pair_passes role row old)
      (stop (room_gives _ outRole outRow) refl (given_when (not_iff (move_ok_lem old first moved)))))))

  -- 8: more pairs than the shorter result column holds; their number
  pub carry_room : (p : ℕ) → ((carry_outcome role row old first moved outRole outRow).answer ≡ Err (TooManyResults p))
      ↔ (RightOld old × PairsFit role row old × MoveFits old first moved
      × (min (length outRole) (length outRow) < length (carried first moved (pairs_of role row)))
      × (p ≡ length (carried first moved (pairs_of role row))))
  unfolding carry_outcome carry_check
  carry_room p =
      Iff.trans (of_carried _ _ outRole outRow _)
      (flat_five (skip (given_numbers _ _) refl right_old
      (skip (pair_gives role row old) refl (pair_passes role row old)
      (skip (given_numbers _ _) refl (given_unless _ (not_fails_iff (move_ok_lem old first moved)))
      (no_room _ outRole outRow p)))))
