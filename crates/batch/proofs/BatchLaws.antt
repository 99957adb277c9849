-- What a list of changes means: RULES 02, E4. The laws of the list (`list-..`) are those of `one_by_one`; those of the
-- public call (`batch-..`) are the same of `batch_outcome`, where its check passes (`batch_is`).
-- The list is the calls one by one: any series of calls that a caller makes, each with the columns that the one before
-- left and the count that it answered, ends with exactly the list's answer and table, `one_by_one_calls`, and there is
-- one, `calls_there`. The number done is the length of the longest front that is all accepted, `list_longest`,
-- `batch_longest`; all are done exactly if no refusal ended it, `list_all_done`, `batch_all_done`. The table is the one
-- that the items done leave, `list_table`, `batch_table`: the refused item changed nothing, and answers on that table
-- what ended the list, `list_refused_item`, `batch_refused_item`, `batch_refused_place`. The table is sound afterwards,
-- `list_sound`, `batch_sound`, and the count answered is its count, `answered_count`. On a refused check the table is
-- as it was and nothing is done (tree, `batch_refused`). The items are the rows of the three columns, `items_length`,
-- `items_at`; an item is a call of `delete` or `rename`, `item_act`. Assumes nothing.
use mathlib.Core.Path.{◌≡◌, refl, sym, ap, subst, ◌∙◌}
use mathlib.Core.Logic.{◌↔◌}
use mathlib.Core.List.{List, ◌∷◌}
use Prim.Native.Nat.{ℕ, suc, ◌+◌, ◌<◌, ◌≤◌}
use native.Mathlib.Omega.{arith}
use native.Mathlib.Decide.{ℕ_discrete}
use lib.ListN.{length, take, drop}
use Rattle.tree.specs.Table.{Table}
use Rattle.tree.specs.Rules.{Sound}
use Rattle.tree.specs.RefusalRules.{GoodList}
use Rattle.tree.specs.Batch.{items_of, item_outcome, BatchOutcome, ended, one_by_one}
use Rattle.tree.specs.Batch.{batch_check, batch_if, batch_outcome}
use Rattle.tree.specs.declared.Item.{Item}
use Rattle.tree.proofs.BatchRefusals.{batch_passes, batch_refused}
use Rattle.batch.specs.Prefix.{table_after_all, LongestAccepted, RefusedAt, item_at}
use Rattle.batch.specs.Calls.{Calls}
use Rattle.batch.proofs.EndsLaws.{ends, ends_there, ends_are, ends_within, ends_longest, ends_all}
use Rattle.batch.proofs.EndsLaws.{ends_table, ends_refused, ends_sound, calls_end, end_calls}
-- the call of an item is that of the edit that it asks for
pub use Rattle.batch.proofs.ItemLaws.{item_act}
use Rattle.batch.proofs.ItemLaws.{columns}
use Rattle.tree.specs.Refusal.{Checked, passed}
use Rattle.std.specs.Prelude.{Ok, Err}
use Rattle.tree.specs.declared.Refusal.{Refusal}

-- ── the list ──
module _ (is : List Item) (t : Table) where
  -- the number done is the length of the longest front that is all accepted
  pub list_longest : LongestAccepted is t (one_by_one 0 is t).answer.done
  list_longest = record { within = ends_within (ends is t); longest = ends_longest (ends is t) }

  -- all are done exactly if no refusal ended the list
  pub list_all_done : ((one_by_one 0 is t).answer.end ≡ passed) ↔ ((one_by_one 0 is t).answer.done ≡ length is)
  list_all_done = ends_all (ends is t)

  -- the table is the one that the items done leave
  pub list_table : (one_by_one 0 is t).table ≡ table_after_all (take (one_by_one 0 is t).answer.done is) t
  list_table = ends_table (ends is t)

  -- the item that was refused answers on that table what ended the list, and leaves it as it is
  pub list_refused_item : (why : Refusal) → (one_by_one 0 is t).answer.end ≡ Err why
      → RefusedAt is (one_by_one 0 is t).answer.done (one_by_one 0 is t).table why
  list_refused_item = ends_refused (ends is t)

  -- the table is sound afterwards
  pub list_sound : (n : ℕ) → Sound t → Sound (one_by_one n is t).table
  list_sound n s =
      let (k, end, last, e) = ends_there is t in
      subst (λ (o : BatchOutcome). Sound o.table) (sym (ends_are e n)) (ends_sound e s)

module _ (t : Table) (code key name : List ℕ) where
  -- ── the check ──
  -- where it passes the calls are made
  pub batch_is : batch_check t code key name ≡ passed
      → batch_outcome t code key name ≡ one_by_one 0 (items_of code key name) t
  unfolding batch_outcome batch_if
  batch_is h = rw h

  -- the count that is answered is that of the table, on every input
  pub answered_count : (batch_outcome t code key name).answer.count ≡ (batch_outcome t code key name).table.count
  answered_count = go (batch_check t code key name) refl
    where
      counts : (o o' : BatchOutcome) → o ≡ o' → o'.answer.count ≡ o'.table.count
          → o.answer.count ≡ o.table.count
      counts o o' e h = cc

      go : (c : Checked) → batch_check t code key name ≡ c
          → (batch_outcome t code key name).answer.count ≡ (batch_outcome t code key name).table.count
      go (Ok u) e =
          let (k, end, last, x) = ends_there (items_of code key name) t in
          counts _ _ (batch_is e ∙ ends_are x 0) refl
      go (Err why) e = counts _ _ (batch_refused t code key name why e) refl

  module _ (h : batch_check t code key name ≡ passed) where
    -- the table is sound, and the columns are a list
    good : Sound t × GoodList code key name
    good = (batch_passes t code key name).0 h

    -- there are as many items as the columns are long
    pub items_length : length (items_of code key name) ≡ length code
    items_length = (columns code key name good.1.keys good.1.names).0

    -- the item at a place has what the columns have there
    pub items_at : (n : ℕ) → n < length code
        → drop n (items_of code key name) ≡ item_at code key name n ∷ drop (suc n) (items_of code key name)
    items_at = (columns code key name good.1.keys good.1.names).1

    -- ── the calls one by one ──
    -- any series of calls ends with the answer and the table of the list
    pub one_by_one_calls : {n : ℕ} {end : Checked} {last : Table} → Calls (items_of code key name) t n end last
        → batch_outcome t code key name ≡ ended n end last
    one_by_one_calls {n} {end} {last} c =
        batch_is h ∙ ends_are (calls_end c) 0
        ∙ ap (λ (k : ℕ). ended k end last) (let z : 0 + n ≡ n = omega arith in z)

    -- what the list's calls have, the public call has
    batch_has : (P : BatchOutcome → Type 0) → P (one_by_one 0 (items_of code key name) t)
        → P (batch_outcome t code key name)
    batch_has P x = subst P (sym (batch_is h)) x

    -- and there is such a series
    pub calls_there : Calls (items_of code key name) t (batch_outcome t code key name).answer.done
        (batch_outcome t code key name).answer.end (batch_outcome t code key name).table
    calls_there =
        batch_has (λ o. Calls (items_of code key name) t o.answer.done o.answer.end o.table)
        (end_calls (ends (items_of code key name) t))

    -- ── the laws of the list, of the public call ──
    -- the number done is the length of the longest front that is all accepted
    pub batch_longest : LongestAccepted (items_of code key name) t (batch_outcome t code key name).answer.done
    batch_longest =
        batch_has (λ o. LongestAccepted (items_of code key name) t o.answer.done)
        (list_longest (items_of code key name) t)

    -- all are done exactly if no refusal ended the list
    pub batch_all_done : ((batch_outcome t code key name).answer.end ≡ passed)
        ↔ ((batch_outcome t code key name).answer.done ≡ length code)
    batch_all_done =
        batch_has (λ o. (o.answer.end ≡ passed) ↔ (o.answer.done ≡ length code))
        (rw items_length at (list_all_done (items_of code key name) t))

    -- the table is the one that the items done leave
    pub batch_table : (batch_outcome t code key name).table
        ≡ table_after_all (take (batch_outcome t code key name).answer.done (items_of code key name)) t
    batch_table =
        batch_has (λ o. o.table ≡ table_after_all (take o.answer.done (items_of code key name)) t)
        (list_table (items_of code key name) t)

    -- the item that was refused answers on that table what ended the list, and leaves it as it is
    pub batch_refused_item : (why : Refusal) → (batch_outcome t code key name).answer.end ≡ Err why
        → RefusedAt (items_of code key name) (batch_outcome t code key name).answer.done
        (batch_outcome t code key name).table why
    batch_refused_item =
        batch_has (λ o. (why : Refusal) → o.answer.end ≡ Err why
        → RefusedAt (items_of code key name) o.answer.done o.table why)
        (list_refused_item (items_of code key name) t)

    -- it is the one at the place `done` of the columns
    pub batch_refused_place : (why : Refusal) → (batch_outcome t code key name).answer.end ≡ Err why
        → ((batch_outcome t code key name).answer.done < length code)
        × ((item_outcome (batch_outcome t code key name).table
        (item_at code key name (batch_outcome t code key name).answer.done)).answer ≡ Err why)
    batch_refused_place why e =
        let o : BatchOutcome = batch_outcome t code key name in
        let r = batch_refused_item why e in
        let n : ℕ = o.answer.done in
        let w : o.answer.done ≤ length (items_of code key name) = batch_longest.within in
        let i = items_length in
        elim (ℕ_discrete o.answer.done (length code)) [
          | yes q ↦
              let x : Err why ≡ passed = sym e ∙ batch_all_done.1 q in
              let z : ◌≡◌ {A = ℕ} 0 1 = cc in
              absurd (omega arith)
          | no q ↦
              let l : (batch_outcome t code key name).answer.done < length code = omega arith in
              let x = items_at n l in
              let y = r.place in
              let z : item_at code key name n ≡ r.here = cc in
              (l, ap (λ (i : Item). (item_outcome o.table i).answer) z ∙ r.answer)
        ]

    -- the table is sound afterwards
    pub batch_sound : Sound (batch_outcome t code key name).table
    batch_sound = batch_has (λ o. Sound o.table) (list_sound (items_of code key name) t 0 good.0)
