-- Each refusal as it is told, by number and place: RULES 01, "Refusal numbers". The number is told exactly if no lower
-- one applies and its own condition holds, and then with this place. By number: every call `count_told` (1),
-- `row_told` (2), `unknown_told` (9); a step `uneven_told` (3) to `room_told` (8); an insertion `piece_told` (10) to
-- `full_told` (14); a deletion `root_told` (15); a rename `name_told` (16). Finding by its own answer, `find_told` and
-- `zero_told`. Carrying, RULES 02, E1, in its order, `old_told` (1) to `carry_room_told` (8); a list of changes,
-- RULES 02, E4, `batch_count_told` (1), `batch_unsound_told` (2), `batch_list_told` (18). Assumes nothing.
use mathlib.Core.Path.{◌≡◌, refl, ap}
use mathlib.Core.Logic.{◌↔◌}
use mathlib.Core.List.{List}
use Prim.Native.Nat.{ℕ, ◌<◌, ◌≤◌, min}
use lib.IntN.{ℤ}
use lib.ListN.{length}
use Rattle.std.specs.Prelude.{Err}
use Rattle.tree.specs.Table.{Table, at}
use Rattle.tree.specs.Rules.{SoundRow, InUse, Sound}
use Rattle.tree.specs.Pairs.{pairs_of}
use Rattle.tree.specs.Step.{Ask, step_list}
use Rattle.tree.specs.StepRules.{PairsFit, TestRule}
use Rattle.tree.specs.EditRules.{NoKey}
use Rattle.tree.specs.Number.{told}
use Rattle.tree.specs.Outcome.{find_outcome}
use Rattle.tree.specs.Carry.{carried, carry_outcome}
use Rattle.tree.specs.CarryRules.{MoveFits}
use Rattle.tree.specs.Batch.{batch_outcome}
use Rattle.tree.specs.Request.{Request, step, insert, delete, rename, table_in, refusal}
use Rattle.tree.specs.RefusalRules.{Least, Some, None, WrongCount, KeyMissing, Uneven, Even, Falls, WrongAxis}
use Rattle.tree.specs.RefusalRules.{RightAxis, KeyRow, BadPiece, TooDeep, Taken, Full, OnlyRoot, NoName}
use Rattle.tree.specs.RefusalRules.{WrongOld, RightOld, BadList}
use Rattle.tree.proofs.NumberLaws.{told_there, told_plain}
use Rattle.tree.proofs.TableRefusals.{count_refused, row_refused, unknown_refused}
use Rattle.tree.proofs.StepRefusals.{uneven_refused, order_refused, outside_refused, axis_refused, test_refused}
use Rattle.tree.proofs.StepRefusals.{room_refused}
use Rattle.tree.proofs.EditRefusals.{piece_refused, parent_refused, deep_refused, taken_refused, full_refused}
use Rattle.tree.proofs.EditRefusals.{root_refused, name_refused}
use Rattle.tree.proofs.CarryRefusals.{old_refused, carry_uneven, carry_order, carry_outside, move_refused, carry_room}
use Rattle.tree.proofs.BatchRefusals.{batch_count, batch_unsound, batch_list}
use Rattle.tree.proofs.FindLaws.{find_none, find_zero}

-- ── every call ──
module _ (c : Request) (p : ℕ) where
  -- 1: the count is 0, above 4,096, or above the shortest table column; place 0
  pub count_told : (told (refusal c) ≡ Err (1, p)) ↔ (WrongCount (table_in c) × (p ≡ 0))
  count_told = told_plain _ 1 p _ refl refl refl (count_refused c)

  -- 2: a row isn't sound; the least such row
  pub row_told : (told (refusal c) ≡ Err (2, p))
      ↔ (InUse (table_in c) × Least (λ i. SoundRow (table_in c) i → ⊥) (table_in c).count p)
  row_told = told_there _ 2 p _ refl refl refl (row_refused c p)

  -- 9: no row has the key; place 0
  pub unknown_told : (told (refusal c) ≡ Err (9, p)) ↔ ((Sound (table_in c) × KeyMissing c) × (p ≡ 0))
  unknown_told = told_plain _ 9 p _ refl refl refl (unknown_refused c)

-- ── the step ──
module _ (t : Table) (role row : List ℕ) (a : Ask) (outRole outRow : List ℕ) (p : ℕ) where
  -- 3: pair columns differ in length or exceed 4,096; place 0
  pub uneven_told : (told (refusal (step t role row a outRole outRow)) ≡ Err (3, p))
      ↔ ((Sound t × Uneven role row) × (p ≡ 0))
  uneven_told = told_plain _ 3 p _ refl refl refl (uneven_refused t role row a outRole outRow)

  -- 4: a pair is less than the one before it; the least such place
  pub order_told : (told (refusal (step t role row a outRole outRow)) ≡ Err (4, p))
      ↔ (Sound t × Even role row × Least (Falls role row) (length role) p)
  order_told = told_there _ 4 p _ refl refl refl (order_refused t role row a outRole outRow p)

  -- 5: a pair's row is not below the count; the least such place
  pub outside_told : (told (refusal (step t role row a outRole outRow)) ≡ Err (5, p))
      ↔ (Sound t × Even role row × None (Falls role row) (length role)
      × Least (λ i. t.count ≤ at row i) (length role) p)
  outside_told = told_there _ 5 p _ refl refl refl (outside_refused t role row a outRole outRow p)

  -- 6: axis code not 1 to 11; place 0
  pub axis_told : (told (refusal (step t role row a outRole outRow)) ≡ Err (6, p))
      ↔ ((Sound t × PairsFit role row t.count × WrongAxis a.axis) × (p ≡ 0))
  axis_told = told_plain _ 6 p _ refl refl refl (axis_refused t role row a outRole outRow)

  -- 7: test code not 0 to 7, or a name not fitting it; place 0
  pub test_told : (told (refusal (step t role row a outRole outRow)) ≡ Err (7, p))
      ↔ ((Sound t × PairsFit role row t.count × RightAxis a.axis × (TestRule a.test a.name → ⊥)) × (p ≡ 0))
  test_told = told_plain _ 7 p _ refl refl refl (test_refused t role row a outRole outRow)

  -- 8: more results than the shorter result column holds; the number of results
  pub room_told : (told (refusal (step t role row a outRole outRow)) ≡ Err (8, p))
      ↔ (Sound t × PairsFit role row t.count × (RightAxis a.axis × TestRule a.test a.name)
      × (min (length outRole) (length outRow) < length (step_list t a (pairs_of role row)))
      × (p ≡ length (step_list t a (pairs_of role row))))
  room_told = told_there _ 8 p _ refl refl refl (room_refused t role row a outRole outRow p)

-- ── finding, by its own answer ──
module _ (t : Table) where
  -- 9: no row in use has the key; place 0
  pub find_told : (k p : ℕ) → (told (find_outcome t k) ≡ Err (9, p)) ↔ ((Sound t × NoKey t k) × (p ≡ 0))
  find_told k p = told_plain _ 9 p _ refl refl refl (find_none t k)

  -- so always for key 0
  pub zero_told : Sound t → told (find_outcome t 0) ≡ Err (9, 0)
  zero_told s = ap told (find_zero t s)

-- ── insertion ──
module _ (t : Table) (k : ℕ) (piece : Table) (p : ℕ) where
  -- 10: the piece would get refusal 1 or 2, or its row 0 is a document (02: or it has several trees); place 0
  pub piece_told : (told (refusal (insert t k piece)) ≡ Err (10, p))
      ↔ (((r : ℕ) × KeyRow t k r × BadPiece piece) × (p ≡ 0))
  piece_told = told_plain _ 10 p _ refl refl refl (piece_refused t k piece)

  -- 11: the parent's kind is neither 0 nor 1; its row
  pub parent_told : (told (refusal (insert t k piece)) ≡ Err (11, p))
      ↔ ((r : ℕ) × KeyRow t k r × ((BadPiece piece → ⊥) × (1 < at t.kind r) × (p ≡ r)))
  parent_told = told_there _ 11 p _ refl refl refl (parent_refused t k piece p)

  -- 12: an inserted level would exceed 63; place 0
  pub deep_told : (told (refusal (insert t k piece)) ≡ Err (12, p))
      ↔ (((r : ℕ) × KeyRow t k r
      × ((BadPiece piece → ⊥) × (at t.kind r ≤ 1) × Some (TooDeep t r piece) piece.count)) × (p ≡ 0))
  deep_told = told_plain _ 12 p _ refl refl refl (deep_refused t k piece)

  -- 13: a piece's key is in the table; the least such piece row
  pub taken_told : (told (refusal (insert t k piece)) ≡ Err (13, p))
      ↔ ((r : ℕ) × KeyRow t k r
      × ((BadPiece piece → ⊥) × (at t.kind r ≤ 1) × None (TooDeep t r piece) piece.count
      × Least (Taken t piece) piece.count p))
  taken_told = told_there _ 13 p _ refl refl refl (taken_refused t k piece p)

  -- 14: the new count would exceed 4,096 or the shortest table column; place 0
  pub full_told : (told (refusal (insert t k piece)) ≡ Err (14, p))
      ↔ (((r : ℕ) × KeyRow t k r
      × ((BadPiece piece → ⊥) × (at t.kind r ≤ 1) × None (TooDeep t r piece) piece.count
      × None (Taken t piece) piece.count × Full t piece)) × (p ≡ 0))
  full_told = told_plain _ 14 p _ refl refl refl (full_refused t k piece)

-- ── deletion ──
-- 15: the row to delete is row 0 (02: the only root); place 0
pub root_told : (t : Table) (k p : ℕ)
    → (told (refusal (delete t k)) ≡ Err (15, p)) ↔ (((r : ℕ) × KeyRow t k r × OnlyRoot t r) × (p ≡ 0))
root_told t k p = told_plain _ 15 p _ refl refl refl (root_refused t k)

-- ── renaming ──
-- 16: the row to rename is not of kind 1 or 4, or the new name is 0; its row
pub name_told : (t : Table) (k m p : ℕ)
    → (told (refusal (rename t k m)) ≡ Err (16, p)) ↔ ((r : ℕ) × KeyRow t k r × (NoName t r m × (p ≡ r)))
name_told t k m p = told_there _ 16 p _ refl refl refl (name_refused t k m p)

-- ── carrying pairs over an edit ──
module _ (role row : List ℕ) (old first : ℕ) (moved : ℤ) (outRole outRow : List ℕ) (p : ℕ) where
  -- 1: the old count is 0 or above 4,096; place 0
  pub old_told : (told (carry_outcome role row old first moved outRole outRow).answer ≡ Err (1, p))
      ↔ (WrongOld old × (p ≡ 0))
  old_told = told_plain _ 1 p _ refl refl refl (old_refused role row old first moved outRole outRow)

  -- 3: pair columns differ in length or exceed 4,096; place 0
  pub carry_uneven_told : (told (carry_outcome role row old first moved outRole outRow).answer ≡ Err (3, p))
      ↔ ((RightOld old × Uneven role row) × (p ≡ 0))
  carry_uneven_told = told_plain _ 3 p _ refl refl refl (carry_uneven role row old first moved outRole outRow)

  -- 4: a pair is less than the one before it; the least such place
  pub carry_order_told : (told (carry_outcome role row old first moved outRole outRow).answer ≡ Err (4, p))
      ↔ (RightOld old × Even role row × Least (Falls role row) (length role) p)
  carry_order_told = told_there _ 4 p _ refl refl refl (carry_order role row old first moved outRole outRow p)

  -- 5: a pair's row is not below the old count; the least such place
  pub carry_outside_told : (told (carry_outcome role row old first moved outRole outRow).answer ≡ Err (5, p))
      ↔ (RightOld old × Even role row × None (Falls role row) (length role)
      × Least (λ i. old ≤ at row i) (length role) p)
  carry_outside_told = told_there _ 5 p _ refl refl refl (carry_outside role row old first moved outRole outRow p)

  -- 17: the move does not fit the old count; place 0
  pub move_told : (told (carry_outcome role row old first moved outRole outRow).answer ≡ Err (17, p))
      ↔ ((RightOld old × PairsFit role row old × (MoveFits old first moved → ⊥)) × (p ≡ 0))
  move_told = told_plain _ 17 p _ refl refl refl (move_refused role row old first moved outRole outRow)

  -- 8: more pairs than the shorter result column holds; their number
  pub carry_room_told : (told (carry_outcome role row old first moved outRole outRow).answer ≡ Err (8, p))
      ↔ (RightOld old × PairsFit role row old × MoveFits old first moved
      × (min (length outRole) (length outRow) < length (carried first moved (pairs_of role row)))
      × (p ≡ length (carried first moved (pairs_of role row))))
  carry_room_told = told_there _ 8 p _ refl refl refl (carry_room role row old first moved outRole outRow p)

-- ── a list of changes ──
module _ (t : Table) (code key name : List ℕ) (p : ℕ) where
  -- 1: the count is 0, above 4,096, or above the shortest table column; place 0
  pub batch_count_told : (told (batch_outcome t code key name).answer.end ≡ Err (1, p)) ↔ (WrongCount t × (p ≡ 0))
  batch_count_told = told_plain _ 1 p _ refl refl refl (batch_count t code key name)

  -- 2: a row isn't sound; the least such row
  pub batch_unsound_told : (told (batch_outcome t code key name).answer.end ≡ Err (2, p))
      ↔ (InUse t × Least (λ i. SoundRow t i → ⊥) t.count p)
  batch_unsound_told = told_there _ 2 p _ refl refl refl (batch_unsound t code key name p)

  -- 18: list columns of unequal length, a list above 256, or a code other than 1 or 2 anywhere; place 0
  pub batch_list_told : (told (batch_outcome t code key name).answer.end ≡ Err (18, p))
      ↔ ((Sound t × BadList code key name) × (p ≡ 0))
  batch_list_told = told_plain _ 18 p _ refl refl refl (batch_list t code key name)
