-- Refusals 3 to 8, of a step. Before them those of the check of pairs alone, which carrying has too: `uneven_pairs`,
-- `falling_pairs`, `outside_pairs`, with `falls_iff` for a pair out of order; and of the check of room: `no_room`.
-- Then `uneven_refused` (3), `order_refused` (4), `outside_refused` (5), `axis_refused` (6), `test_refused` (7),
-- `room_refused` (8). Each says that no lower number applies, then its own condition, then the place where
-- the reason has one. Assumes nothing.
use mathlib.Core.Path.{◌≡◌, refl}
use mathlib.Core.Logic.{◌↔◌}
use mathlib.Core.Bool.{true, not, ◌||◌}
use mathlib.Core.List.{List}
use Prim.Native.Nat.{ℕ, ◌<◌, ◌≤◌, min}
use borrow.Author.Tests.{ltb-false, le-ltb}
use lib.Dec.{ltb, eqb}
use lib.ListN.{length}
use Rattle.tree.specs.Table.{Table, at}
use Rattle.tree.specs.Rules.{Sound}
use Rattle.tree.specs.Axis.{axis_ok}
use Rattle.tree.specs.Pairs.{pairs_of, before, out_of_order}
use Rattle.tree.specs.Step.{Ask, step_list}
use Rattle.tree.specs.StepRules.{PairsFit, TestRule}
use Rattle.tree.specs.Refusal.{given, pair_check, ask_check, room_check, passed}
use Rattle.tree.specs.Request.{step, refusal}
use Rattle.tree.specs.RefusalRules.{Least, None, Uneven, Even, Falls, WrongAxis, RightAxis}
use Rattle.tree.proofs.RoleLaws.{pair_passes}
use Rattle.tree.proofs.AskLaws.{axis_ok_lem, test_ok_lem}
use Rattle.tree.proofs.StepAccept.{ask_passes}
use Rattle.tree.proofs.CheckLaws.{lt_iff, eq_iff, zero_iff, above_iff, not_iff, not_passes_iff, not_fails_iff}
use Rattle.tree.proofs.CheckLaws.{or_iff, and_iff, nand_iff, nor_iff, given_when, given_there, given_unless}
use Rattle.tree.proofs.CheckLaws.{least_when}
use Rattle.tree.proofs.CheckLaws.{least_unless, given_numbers, least_numbers, next_numbers, stop, skip}
use Rattle.tree.proofs.CheckLaws.{flat_three, flat_four, flat_five}
use Rattle.tree.proofs.TableRefusals.{pair_gives, ask_gives, room_gives, after_table}
use Rattle.std.specs.Prelude.{Err}
use Rattle.tree.specs.declared.Refusal.TheVariants.{BadPairColumns, PairOutOfOrder, PairOutsideTable, BadAxis}
use Rattle.tree.specs.declared.Refusal.TheVariants.{BadTest, TooManyResults}

-- ── the pairs, in a table of n rows ──
-- a pair is out of order exactly if it falls
pub falls_iff : (role row : List ℕ) (i : ℕ) → (out_of_order role row i ≡ true) ↔ Falls role row i
unfolding out_of_order before
falls_iff role row i =
    and_iff (not_iff (eq_iff i 0)) (or_iff (lt_iff _ _) (and_iff (eq_iff _ _) (lt_iff _ _)))

module _ (role row : List ℕ) (n : ℕ) where
  -- columns that differ in length or exceed 4,096
  pub uneven_pairs : (pair_check role row n ≡ Err BadPairColumns) ↔ Uneven role row
  unfolding pair_check
  uneven_pairs =
      stop (next_numbers (least_numbers _ _ PairOutOfOrder) (least_numbers _ _ PairOutsideTable)) refl
      (given_when (or_iff (not_iff (eq_iff _ _)) (lt_iff _ _)))

  -- they are even
  even_pairs : (given (not (eqb (length role) (length row)) || ltb 4096 (length role)) BadPairColumns ≡ passed)
      ↔ Even role row
  even_pairs = given_unless _ (nor_iff (not_fails_iff (eq_iff _ _)) (ltb-false _ _, le-ltb _ _))

  -- a pair that is less than the one before it
  pub falling_pairs : (p : ℕ) → (pair_check role row n ≡ Err (PairOutOfOrder p))
      ↔ (Even role row × Least (Falls role row) (length role) p)
  unfolding pair_check
  falling_pairs p =
      skip (given_numbers _ _) refl even_pairs
      (stop (least_numbers _ _ PairOutsideTable) refl
      (least_when (out_of_order role row) (length role) PairOutOfOrder (falls_iff role row) (λ i j e. cc) p))

  -- a row that is not below the count
  pub outside_pairs : (p : ℕ) → (pair_check role row n ≡ Err (PairOutsideTable p))
      ↔ (Even role row × (None (Falls role row) (length role) × Least (λ i. n ≤ at row i) (length role) p))
  unfolding pair_check
  outside_pairs p =
      skip (given_numbers _ _) refl even_pairs
      (skip (least_numbers _ _ PairOutOfOrder) refl
      (least_unless (out_of_order role row) (length role) PairOutOfOrder (falls_iff role row))
      (least_when (λ i. not (ltb (at row i) n)) (length role) PairOutsideTable
      (λ i. not_passes_iff (ltb-false _ _, le-ltb _ _)) (λ i j e. cc) p))

-- ── room for the results ──
pub no_room : (results : ℕ) (outRole outRow : List ℕ) (p : ℕ)
    → (room_check results outRole outRow ≡ Err (TooManyResults p))
    ↔ ((min (length outRole) (length outRow) < results) × (p ≡ results))
unfolding room_check
no_room results outRole outRow p = given_there TooManyResults results p (λ i j e. cc) (lt_iff _ _)

-- ── the step ──
module _ (t : Table) (role row : List ℕ) (a : Ask) (outRole outRow : List ℕ) where
  -- 3: pair columns differ in length or exceed 4,096
  pub uneven_refused : (refusal (step t role row a outRole outRow) ≡ Err BadPairColumns)
      ↔ (Sound t × Uneven role row)
  uneven_refused =
      after_table _ _ refl
      (stop (next_numbers (ask_gives a) (room_gives _ outRole outRow)) refl (uneven_pairs role row t.count))

  -- 4: a pair is less than the one before it; the least such place
  pub order_refused : (p : ℕ) → (refusal (step t role row a outRole outRow) ≡ Err (PairOutOfOrder p))
      ↔ (Sound t × Even role row × Least (Falls role row) (length role) p)
  order_refused p =
      flat_three (after_table _ _ refl
      (stop (next_numbers (ask_gives a) (room_gives _ outRole outRow)) refl (falling_pairs role row t.count p)))

  -- 5: a pair's row is not below the count; the least such place
  pub outside_refused : (p : ℕ) → (refusal (step t role row a outRole outRow) ≡ Err (PairOutsideTable p))
      ↔ (Sound t × Even role row × None (Falls role row) (length role)
      × Least (λ i. t.count ≤ at row i) (length role) p)
  outside_refused p =
      flat_four (after_table _ _ refl
      (stop (next_numbers (ask_gives a) (room_gives _ outRole outRow)) refl (outside_pairs role row t.count p)))

  -- 6: axis code not 1 to 11
  pub axis_refused : (refusal (step t role row a outRole outRow) ≡ Err BadAxis)
      ↔ (Sound t × PairsFit role row t.count × WrongAxis a.axis)
  unfolding ask_check axis_ok
  axis_refused =
      flat_three (after_table _ _ refl
      (skip (pair_gives role row t.count) refl (pair_passes role row t.count)
      (stop (room_gives _ outRole outRow) refl (stop (given_numbers _ _) refl
      (given_when (not_passes_iff (nand_iff (zero_iff _) (above_iff _ _))))))))

  -- 7: test code not 0 to 7, or a name not fitting it
  pub test_refused : (refusal (step t role row a outRole outRow) ≡ Err BadTest)
      ↔ (Sound t × PairsFit role row t.count × RightAxis a.axis × (TestRule a.test a.name → ⊥))
  unfolding ask_check
  test_refused =
      flat_four (after_table _ _ refl
      (skip (pair_gives role row t.count) refl (pair_passes role row t.count)
      (stop (room_gives _ outRole outRow) refl
      (skip (given_numbers _ _) refl (given_unless _ (not_fails_iff (axis_ok_lem a.axis)))
      (given_when (not_iff (test_ok_lem a.test a.name)))))))

  -- 8: more results than the shorter result column holds; the number of results
  pub room_refused : (p : ℕ) → (refusal (step t role row a outRole outRow) ≡ Err (TooManyResults p))
      ↔ (Sound t × PairsFit role row t.count × (RightAxis a.axis × TestRule a.test a.name)
      × (min (length outRole) (length outRow) < length (step_list t a (pairs_of role row)))
      × (p ≡ length (step_list t a (pairs_of role row))))
  room_refused p =
      flat_five (after_table _ _ refl
      (skip (pair_gives role row t.count) refl (pair_passes role row t.count)
      (skip (ask_gives a) refl (ask_passes a) (no_room _ outRole outRow p))))
