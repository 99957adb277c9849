-- The refusals of a list of changes, in the order of RULES 02, E4: `batch_count` (1), `batch_unsound` (2),
-- `batch_list` (18). Each says that no earlier one applies, then its own condition, then the place where it has one. Its checks pass
-- exactly if the table is sound and the list is good: `good_list`, `batch_passes`. Where they refuse, which is so
-- with every number that no item gives, nothing is done, and the table and the count are as they were:
-- `batch_refused`, `batch_unchanged`. On a sound table an item gives 9, 15 or 16 and leaves a sound one, `item_gives`
-- and `sound_after`, so a list ends with no other number, `items_give`. That the item at the place `done` answers
-- exactly that refusal is in batch/proofs/BatchLaws.antt. Assumes nothing.
use mathlib.Core.Path.{◌≡◌, refl, sym}
use mathlib.Core.Logic.Iff
use mathlib.Core.Logic.{⊎_elim, ◌↔◌}
use mathlib.Core.Bool.{Bool, true, false, cond, ◌||◌, true≢false}
use mathlib.Core.List.{List, [], ◌∷◌}
use Prim.Native.Nat.{ℕ, suc, ◌<◌}
use native.Mathlib.Omega.{arith}
use borrow.Author.Tests.{ltb-false, le-ltb}
use lib.Dec.{eqb}
use lib.ListN.{length}
use Rattle.tree.specs.Search.{some_below}
use Rattle.tree.specs.Table.{Table, at}
use Rattle.tree.specs.Sound.{row_of}
use Rattle.tree.specs.Rules.{SoundRow, InUse, Sound}
use Rattle.tree.specs.Edit.{deleted, renamed}
use Rattle.tree.specs.Refusal.{next, delete_check, rename_check, Checked, passed}
use Rattle.tree.specs.Outcome.{check_outcome, edit_if, edit_check, delete_outcome, rename_outcome, Edited}
use Rattle.tree.specs.Request.{check, refusal, said}
use Rattle.tree.specs.Batch.{item_outcome, BatchOutcome, ended, unless_refused, one_by_one, wrong_code, list_check}
use Rattle.tree.specs.Batch.{batch_check, batch_if, batch_outcome}
use Rattle.tree.specs.RefusalRules.{Least, WrongCount, RightCode, BadList, GoodList}
use Rattle.tree.specs.declared.Refusal.{Refusal}
use Rattle.tree.specs.declared.Refusal.TheVariants as because
use Rattle.tree.specs.declared.Done.{Done}
use Rattle.tree.specs.declared.Item.{Item}
use Rattle.tree.specs.Number.{number}
use Rattle.tree.proofs.SoundLaws.{table_passes, next_passed, either, either_left, either_right}
use Rattle.tree.proofs.AcceptLaws.{none_below, delete_passes, rename_passes, edit_passes}
use Rattle.tree.proofs.EditSound.{sound_deleted, sound_renamed}
use Rattle.tree.proofs.CheckLaws.{lt_iff, eq_iff, not_iff, not_fails_iff, or_iff, nor_iff, some_iff}
use Rattle.tree.proofs.CheckLaws.{given_when, given_unless, has, Numbers, given_numbers, next_numbers}
use Rattle.tree.proofs.CheckLaws.{no_refusal, stop, skip}
use Rattle.tree.proofs.TableRefusals.{table_gives, key_gives, count_refused, row_refused}
use Rattle.std.specs.Prelude.{Ok, Err}

-- ── the list's own check ──
module _ (code key name : List ℕ) where
  -- it refuses with 18 only
  list_gives : Numbers (18 ∷ []) (list_check code key name)
  unfolding list_check
  list_gives = given_numbers _ _

  -- the test of a code
  code_iff : (i : ℕ) → ((eqb (at code i) 1 || eqb (at code i) 2) ≡ true) ↔ RightCode code i
  code_iff i = or_iff (eq_iff _ _) (eq_iff _ _)

  -- it refuses exactly if the list is bad
  bad_list : (list_check code key name ≡ Err because.BadList) ↔ BadList code key name
  unfolding list_check some_below
  bad_list =
      given_when
      (or_iff (or_iff (or_iff (not_iff (eq_iff _ _)) (not_iff (eq_iff _ _))) (lt_iff _ _))
      (some_iff _ _ (λ i. not_iff (code_iff i))))

  -- it passes exactly if the list is good
  pub good_list : (list_check code key name ≡ passed) ↔ GoodList code key name
  unfolding list_check some_below
  good_list =
      Iff.trans
      (given_unless _
      (nor_iff (nor_iff (nor_iff (not_fails_iff (eq_iff _ _)) (not_fails_iff (eq_iff _ _))) (ltb-false _ _, le-ltb _ _))
      codes)) (
        λ (((k, m), f), c). record { keys = k; names = m; few = f; codes = c },
        λ g. (((g.keys, g.names), g.few), g.codes),
      )
    where
      codes : (some_below (wrong_code code) (length code) ≡ false) ↔ ((i : ℕ) → i < length code → RightCode code i)
      codes = (
        λ e i l. (not_fails_iff (code_iff i)).0 ((none_below (wrong_code code) (length code)).0 e i l),
        λ h. (none_below (wrong_code code) (length code)).1 (λ i l. (not_fails_iff (code_iff i)).1 (h i l)),
      )

-- ── an item, on a sound table ──
-- the numbers that an item can give there
abbrev pub item_numbers : List ℕ
item_numbers = 9 ∷ 15 ∷ 16 ∷ []

module _ (t : Table) (s : Sound t) (k : ℕ) where
  -- the checks behind that of the table
  after_sound : (own : Checked) → Numbers (15 ∷ 16 ∷ []) own → Numbers item_numbers (edit_check t k own)
  unfolding edit_check next
  after_sound own h = rw ((table_passes t).1 s) (next_numbers (key_gives t k) h)

  -- those of a deletion
  delete_gives : Numbers item_numbers (edit_check t k (delete_check t (row_of t.key t.count k)))
  unfolding delete_check
  delete_gives = after_sound _ (record {
    only = λ why e. ⊎_elim (λ x. either_left (has (number why) (16 ∷ [])) x) (λ x. absurd (true≢false (sym x)))
        (either (eqb (number why) 15) false ((given_numbers _ _).only why e));
  })

  -- those of a renaming
  rename_gives : (m : ℕ) → Numbers item_numbers (edit_check t k (rename_check t (row_of t.key t.count k) m))
  unfolding rename_check
  rename_gives m = after_sound _ (record {
    only = λ why e. either_right (eqb (number why) 15) ((given_numbers _ _).only why e);
  })

  -- what an accepted one leaves is sound
  sound_delete : edit_check t k (delete_check t (row_of t.key t.count k)) ≡ passed
      → Sound (deleted t (row_of t.key t.count k))
  sound_delete e =
      let f = (edit_passes t k _).0 e in
      sound_deleted t s k f.found ((delete_passes t _).0 f.passes)

  sound_rename : (m : ℕ) → edit_check t k (rename_check t (row_of t.key t.count k) m) ≡ passed
      → Sound (renamed t (row_of t.key t.count k) m)
  sound_rename m e =
      let f = (edit_passes t k _).0 e in
      sound_renamed t s _ m f.found ((rename_passes t _ m).0 f.passes)

-- an edit's answer says what its checks say, and what it leaves is sound, done or refused
module _ (d : Done) (t' t : Table) where
  answer_gives : (c : Checked) → Numbers item_numbers c → Numbers item_numbers (said (edit_if c d t' t).answer)
  unfolding edit_if said
  answer_gives (Ok u) h = h
  answer_gives (Err why) h = h

  sound_left : (c : Checked) → Sound t → (c ≡ passed → Sound t') → Sound (edit_if c d t' t).table
  unfolding edit_if
  sound_left (Ok u) s h = h refl
  sound_left (Err why) s h = s

module _ (t : Table) (s : Sound t) (i : Item) where
  -- an item is refused with 9, 15 or 16 only
  pub item_gives : Numbers item_numbers (said (item_outcome t i).answer)
  unfolding item_outcome delete_outcome rename_outcome
  item_gives = go (eqb i.code 1)
    where
      go : (b : Bool)
          → Numbers item_numbers
          (said (cond b (delete_outcome t i.key) (rename_outcome t i.key i.name)).answer)
      go true = answer_gives _ _ t _ (delete_gives t s i.key)
      go false = answer_gives _ _ t _ (rename_gives t s i.key i.name)

  -- the table that it leaves is sound
  pub sound_after : Sound (item_outcome t i).table
  unfolding item_outcome delete_outcome rename_outcome
  sound_after = go (eqb i.code 1)
    where
      go : (b : Bool) → Sound (cond b (delete_outcome t i.key) (rename_outcome t i.key i.name)).table
      go true = sound_left _ _ t _ s (sound_delete t s i.key)
      go false = sound_left _ _ t _ s (sound_rename t s i.key i.name)

-- ── items one by one, from a sound table on ──
-- the first of them ends the list, or the others do
one_ends : (a : Edited) (done : ℕ) (t : Table) (later : BatchOutcome) → Numbers item_numbers (said a)
    → Numbers item_numbers later.answer.end → Numbers item_numbers (unless_refused a done t later).answer.end
unfolding unless_refused said
one_ends (Ok d) done t later h k = k
one_ends (Err why) done t later h k = h

-- so a list that a refusal ends is ended by 9, 15 or 16
pub items_give : (done : ℕ) (is : List Item) (t : Table) → Sound t
    → Numbers item_numbers (one_by_one done is t).answer.end
unfolding one_by_one
items_give done [] t s = record { only = λ why e. let z : ◌≡◌ {A = ℕ} 0 1 = cc in absurd (omega arith) }
items_give done (i ∷ is) t s =
    one_ends _ done _ _ (item_gives t s i) (items_give (suc done) is _ (sound_after t s i))

-- ── the whole call ──
-- it ends with a number that no item gives exactly if its checks refuse with that number
of_batch_lem : (c : Checked) (o : BatchOutcome) (t : Table) (why : Refusal) → has (number why) item_numbers ≡ false
    → (c ≡ passed → Numbers item_numbers o.answer.end)
    → ((batch_if c o t).answer.end ≡ Err why) ↔ (c ≡ Err why)
unfolding batch_if
of_batch_lem (Ok u) o t why a h = (
  λ e. absurd (no_refusal (h refl) a e),
  λ e. let z : ◌≡◌ {A = ℕ} 0 1 = cc in absurd (omega arith),
)
of_batch_lem (Err other) o t why a h = (λ e. e, λ e. e)

module _ (t : Table) (code key name : List ℕ) where
  -- its checks pass exactly if the table is sound and the list is good
  pub batch_passes : (batch_check t code key name ≡ passed) ↔ (Sound t × GoodList code key name)
  unfolding batch_check
  batch_passes = Iff.trans (next_passed _ _) (
    λ (a, b). ((table_passes t).0 a, (good_list code key name).0 b),
    λ (s, g). ((table_passes t).1 s, (good_list code key name).1 g),
  )

  -- a number that no item gives comes from the checks
  ends_by_check : (why : Refusal) → has (number why) item_numbers ≡ false
      → ((batch_outcome t code key name).answer.end ≡ Err why) ↔ (batch_check t code key name ≡ Err why)
  unfolding batch_outcome
  ends_by_check why a = of_batch_lem _ _ t why a (λ e. items_give 0 _ t (batch_passes.0 e).0)

  -- 1: the count is 0, above 4,096, or above the shortest table column
  pub batch_count : ((batch_outcome t code key name).answer.end ≡ Err because.BadCount) ↔ WrongCount t
  unfolding batch_check refusal check_outcome
  batch_count =
      Iff.trans (ends_by_check _ refl) (stop (list_gives code key name) refl (count_refused (check t)))

  -- 2: a row isn't sound; the least such row
  pub batch_unsound : (p : ℕ) → ((batch_outcome t code key name).answer.end ≡ Err (because.UnsoundRow p))
      ↔ (InUse t × Least (λ i. SoundRow t i → ⊥) t.count p)
  unfolding batch_check refusal check_outcome
  batch_unsound p =
      Iff.trans (ends_by_check _ refl) (stop (list_gives code key name) refl (row_refused (check t) p))

  -- 18: list columns of unequal length, a list above 256, or a code other than 1 or 2 anywhere
  pub batch_list : ((batch_outcome t code key name).answer.end ≡ Err because.BadList)
      ↔ (Sound t × BadList code key name)
  unfolding batch_check
  batch_list =
      Iff.trans (ends_by_check _ refl) (skip (table_gives t) refl (table_passes t) (bad_list code key name))

  -- where its checks refuse nothing is done: the table is as it was, and the count
  pub batch_refused : (why : Refusal) → batch_check t code key name ≡ Err why
      → batch_outcome t code key name ≡ ended 0 (Err why) t
  unfolding batch_outcome batch_if
  batch_refused why h = rw h

  -- so it is with a number that no item gives, as 1, 2 and 18
  pub batch_unchanged : (why : Refusal) → has (number why) item_numbers ≡ false
      → (batch_outcome t code key name).answer.end ≡ Err why
      → batch_outcome t code key name ≡ ended 0 (Err why) t
  batch_unchanged why a e = batch_refused why ((ends_by_check why a).0 e)
