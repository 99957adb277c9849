-- Refusals 1, 2 and 9, of every call of Request. Before them: a call's answer says what its checks say,
-- `refusal_is`; which numbers each check can give, `table_gives` to `rename_gives`, and each call, 01's line,
-- `call_numbers`. Then `count_refused` (1) and `row_refused` (2); a refusal of a later check than the table's,
-- `after_table`; and `unknown_refused` (9). Each says that no lower number applies, then its own condition, then the
-- place where the reason has one. Assumes nothing.
use mathlib.Core.Path.{◌≡◌, refl, sym, ◌∙◌}
use mathlib.Core.Logic.{◌↔◌}
use mathlib.Core.Bool.{Bool, true, false, cond, not}
use mathlib.Core.List.{List, [], ◌∷◌}
use Prim.Native.Nat.{ℕ}
use native.Mathlib.Omega.{arith}
use lib.Dec.{ltb}
use lib.ListN.{length}
use Rattle.tree.specs.Table.{Table, count_ok}
use Rattle.tree.specs.Sound.{row_of, row_ok, first_bad}
use Rattle.tree.specs.Rules.{SoundRow, InUse, Sound}
use Rattle.tree.specs.Pairs.{Pair, pairs_of}
use Rattle.tree.specs.Step.{Ask, step_list}
use Rattle.tree.specs.EditRules.{NoKey}
use Rattle.tree.specs.Refusal.{given, given_at, next, table_check, pair_check, ask_check, room_check, key_check}
use Rattle.tree.specs.Refusal.{insert_check, delete_check, rename_check, Checked, passed}
use Rattle.tree.specs.Outcome.{check_outcome, located, find_outcome, found_at}
use Rattle.tree.specs.Outcome.{step_if, step_check, step_outcome}
use Rattle.tree.specs.Outcome.{edit_if, edit_check, insert_outcome, delete_outcome, rename_outcome}
use Rattle.tree.specs.Request.{Request, check, find, step, insert, delete, rename, table_in, refusal, numbers_of}
use Rattle.tree.specs.Request.{said}
use Rattle.tree.specs.RefusalRules.{Least, WrongCount, KeyMissing}
use Rattle.tree.specs.declared.Done.{Done}
use Rattle.tree.proofs.SoundLaws.{row_ok_lem, count_ok_lem, table_passes}
use Rattle.tree.proofs.AcceptLaws.{no_key}
use Rattle.tree.proofs.CheckLaws.{zero_iff, above_iff, nand_iff, not_passes_iff, not_iff, not_fails_iff}
use Rattle.tree.proofs.CheckLaws.{given_when, given_unless, least_when, has, Numbers, given_numbers}
use Rattle.tree.proofs.CheckLaws.{least_numbers, next_numbers, no_refusal, stop, skip, same_refusal}
use Rattle.std.specs.Prelude.{Ok, Err}
use Rattle.tree.specs.declared.Refusal.TheVariants.{BadCount, UnsoundRow, UnknownKey}
use Rattle.tree.specs.declared.Refusal.{Refusal}
use Rattle.tree.specs.Number.{number}

-- ── a call's answer says what its checks say ──
-- the checks behind that of the table
abbrev pub later_check : Request → Checked
later_check (check t) = passed
later_check (find t k) = key_check t k
later_check (step t role row a outRole outRow) =
    next (pair_check role row t.count) (next (ask_check a)
    (room_check (length (step_list t a (pairs_of role row))) outRole outRow))
later_check (insert t k piece) = next (key_check t k) (insert_check t (row_of t.key t.count k) piece)
later_check (delete t k) = next (key_check t k) (delete_check t (row_of t.key t.count k))
later_check (rename t k m) = next (key_check t k) (rename_check t (row_of t.key t.count k) m)

-- nothing more is checked
next_none : (c : Checked) → c ≡ next c passed
unfolding next
next_none (Ok u) = refl
next_none (Err why) = refl

-- finding
of_found_lem : (c : Checked) (t : Table) (k : ℕ)
    → said (next c (located t.key t.level t.count k)) ≡ next c (key_check t k)
unfolding said located next key_check given
of_found_lem (Err why) t k = refl
of_found_lem (Ok u) t k = go (ltb (row_of t.key t.count k) t.count)
  where
    go : (b : Bool) → said (cond b (found_at t (row_of t.key t.count k)) (Err UnknownKey)) ≡ given (not b) UnknownKey
    go true = refl
    go false = refl

-- a step
of_stepped_lem : (c : Checked) (results : List Pair) (kept : ℕ) (outRole outRow : List ℕ)
    → said (step_if c results kept outRole outRow).answer ≡ c
unfolding said step_if
of_stepped_lem (Ok u) results kept outRole outRow = refl
of_stepped_lem (Err why) results kept outRole outRow = refl

-- an edit
of_edited_lem : (c : Checked) (d : Done) (t' t : Table) → said (edit_if c d t' t).answer ≡ c
unfolding said edit_if
of_edited_lem (Ok u) d t' t = refl
of_edited_lem (Err why) d t' t = refl

-- each call
pub refusal_is : (c : Request) → refusal c ≡ next (table_check (table_in c)) (later_check c)
unfolding refusal check_outcome find_outcome step_outcome step_check insert_outcome delete_outcome rename_outcome
    edit_check
refusal_is (check t) = next_none (table_check t)
refusal_is (find t k) = of_found_lem (table_check t) t k
refusal_is (step t role row a outRole outRow) = of_stepped_lem _ _ _ _ _
refusal_is (insert t k piece) = of_edited_lem _ _ _ _
refusal_is (delete t k) = of_edited_lem _ _ _ _
refusal_is (rename t k m) = of_edited_lem _ _ _ _

-- ── which numbers each check can give ──
pub table_gives : (t : Table) → Numbers (1 ∷ 2 ∷ []) (table_check t)
unfolding table_check
table_gives t = next_numbers (given_numbers _ _) (given_numbers _ _)

pub pair_gives : (role row : List ℕ) (n : ℕ) → Numbers (3 ∷ 4 ∷ 5 ∷ []) (pair_check role row n)
unfolding pair_check
pair_gives role row n = next_numbers (given_numbers _ _) (next_numbers (least_numbers _ _ _) (least_numbers _ _ _))

pub ask_gives : (a : Ask) → Numbers (6 ∷ 7 ∷ []) (ask_check a)
unfolding ask_check
ask_gives a = next_numbers (given_numbers _ _) (given_numbers _ _)

pub room_gives : (results : ℕ) (outRole outRow : List ℕ) → Numbers (8 ∷ []) (room_check results outRole outRow)
unfolding room_check
room_gives results outRole outRow = given_numbers _ _

pub key_gives : (t : Table) (k : ℕ) → Numbers (9 ∷ []) (key_check t k)
unfolding key_check
key_gives t k = given_numbers _ _

pub insert_gives : (t : Table) (r : ℕ) (piece : Table)
    → Numbers (10 ∷ 11 ∷ 12 ∷ 13 ∷ 14 ∷ []) (insert_check t r piece)
unfolding insert_check
insert_gives t r piece =
    next_numbers (given_numbers _ _) (next_numbers (given_numbers _ _) (next_numbers (given_numbers _ _)
    (next_numbers (least_numbers _ _ _) (given_numbers _ _))))

delete_gives : (t : Table) (r : ℕ) → Numbers (15 ∷ []) (delete_check t r)
unfolding delete_check
delete_gives t r = given_numbers _ _

rename_gives : (t : Table) (r m : ℕ) → Numbers (16 ∷ []) (rename_check t r m)
unfolding rename_check
rename_gives t r m = given_numbers _ _

-- those behind that of the table
abbrev later_numbers : Request → List ℕ
later_numbers (check t) = []
later_numbers (find t k) = 9 ∷ []
later_numbers (step t role row a outRole outRow) = 3 ∷ 4 ∷ 5 ∷ 6 ∷ 7 ∷ 8 ∷ []
later_numbers (insert t k piece) = 9 ∷ 10 ∷ 11 ∷ 12 ∷ 13 ∷ 14 ∷ []
later_numbers (delete t k) = 9 ∷ 15 ∷ []
later_numbers (rename t k m) = 9 ∷ 16 ∷ []

later_gives : (c : Request) → Numbers (later_numbers c) (later_check c)
later_gives (check t) = record { only = λ why e. let z : ◌≡◌ {A = ℕ} 0 1 = cc in absurd (omega arith) }
later_gives (find t k) = key_gives t k
later_gives (step t role row a outRole outRow) =
    next_numbers (pair_gives role row t.count) (next_numbers (ask_gives a) (room_gives _ outRole outRow))
later_gives (insert t k piece) = next_numbers (key_gives t k) (insert_gives t _ piece)
later_gives (delete t k) = next_numbers (key_gives t k) (delete_gives t _)
later_gives (rename t k m) = next_numbers (key_gives t k) (rename_gives t _ m)

-- neither 1 nor 2 is among them
later_other : (c : Request) → (has 1 (later_numbers c) ≡ false) × (has 2 (later_numbers c) ≡ false)
later_other (check t) = (refl, refl)
later_other (find t k) = (refl, refl)
later_other (step t role row a outRole outRow) = (refl, refl)
later_other (insert t k piece) = (refl, refl)
later_other (delete t k) = (refl, refl)
later_other (rename t k m) = (refl, refl)

-- 01: "Table check: 1, 2. Step: 1 to 8. Find: 1, 2, 9. Insertion: 1, 2, 9 to 14. Deletion: 1, 2, 9, 15. Rename: 1, 2,
-- 9, 16."
pub call_numbers : (c : Request) → Numbers (numbers_of c) (refusal c)
call_numbers c = record {
  only = λ why e. go c (number why)
      ((next_numbers (table_gives (table_in c)) (later_gives c)).only why (sym (refusal_is c) ∙ e));
}
  where
    go : (c : Request) (m : ℕ) → has m (1 ∷ 2 ∷ later_numbers c) ≡ true → has m (numbers_of c) ≡ true
    go (check t) m h = h
    go (find t k) m h = h
    go (step t role row a outRole outRow) m h = h
    go (insert t k piece) m h = h
    go (delete t k) m h = h
    go (rename t k m) n h = h

-- ── 1 and 2, of every call ──
module _ (c : Request) where
  -- the count is 0, above 4,096, or above the shortest table column
  pub count_refused : (refusal c ≡ Err BadCount) ↔ WrongCount (table_in c)
  unfolding table_check count_ok
  count_refused =
      same_refusal (refusal_is c)
      (stop (later_gives c) (later_other c).0 (stop (given_numbers _ _) refl
      (given_when (not_passes_iff (nand_iff (nand_iff (zero_iff _) (above_iff _ _)) (above_iff _ _))))))

  -- a row isn't sound; the least such row
  pub row_refused : (p : ℕ) → (refusal c ≡ Err (UnsoundRow p))
      ↔ (InUse (table_in c) × Least (λ i. SoundRow (table_in c) i → ⊥) (table_in c).count p)
  unfolding table_check first_bad given_at
  row_refused p =
      same_refusal (refusal_is c)
      (stop (later_gives c) (later_other c).1
      (skip (given_numbers _ _) refl (given_unless _ (not_fails_iff (count_ok_lem (table_in c))))
      (least_when (λ i. not (row_ok (table_in c) i)) _ UnsoundRow (λ i. not_iff (row_ok_lem (table_in c) i))
      (λ i j e. cc) p)))

-- ── a refusal of a later check: the table is sound ──
pub after_table : (c : Request) (why : Refusal) {A : Type 0} → has (number why) (1 ∷ 2 ∷ []) ≡ false
    → (later_check c ≡ Err why) ↔ A
    → (refusal c ≡ Err why) ↔ (Sound (table_in c) × A)
after_table c why o h = same_refusal (refusal_is c) (skip (table_gives (table_in c)) o (table_passes (table_in c)) h)

-- ── 9, of every call ──
-- the call names a key and no row has it
pub unknown_refused : (c : Request) → (refusal c ≡ Err UnknownKey) ↔ (Sound (table_in c) × KeyMissing c)
unfolding key_check
unknown_refused c = after_table c UnknownKey refl (go c)
  where
    key : (t : Table) (k : ℕ) → (key_check t k ≡ Err UnknownKey) ↔ NoKey t k
    key t k = given_when (not_passes_iff (no_key t k))

    go : (c : Request) → (later_check c ≡ Err UnknownKey) ↔ KeyMissing c
    go (check t) = (λ e. absurd (no_refusal (later_gives (check t)) refl e), λ h. absurd h)
    go (find t k) = key t k
    go (step t role row a outRole outRow) = (
      λ e. absurd (no_refusal (later_gives (step t role row a outRole outRow)) refl e),
      λ h. absurd h,
    )
    go (insert t k piece) = stop (insert_gives t _ piece) refl (key t k)
    go (delete t k) = stop (delete_gives t _) refl (key t k)
    go (rename t k m) = stop (rename_gives t _ m) refl (key t k)
