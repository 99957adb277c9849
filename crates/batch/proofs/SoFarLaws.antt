-- A list of changes while it is done: what holds of the answer so far and of the table, `SoFar`. It holds at the start,
-- `so_far_start`, and one item later, `so_far_later`; while the list goes on an item is left, `item_left`, and each
-- leaves fewer turns, `turns_less`. When none is left to try, the answer so far and the table are what the list gives,
-- `so_far_end`, by `batch_leaves`. Assumes nothing.
use mathlib.Core.Path.{◌≡◌, refl, sym, ap, ◌∙◌}
use mathlib.Core.Bool.{Bool, true, false, cond, true≢false}
use mathlib.Core.List.{List, ◌∷◌}
use Prim.Native.Nat.{ℕ, suc, ◌<◌, ◌≤◌}
use native.Mathlib.Numerals.{add-one}
use native.Mathlib.Omega.{arith}
use borrow.Author.Tests.{ltb-true, ltb-false}
use lib.Dec.{eqb}
use lib.ListN.{length, drop, drop_of_length-le}
use Rattle.tree.specs.Table.{Table, table_of}
use Rattle.tree.specs.Rules.{Sound}
use Rattle.tree.specs.Sound.{row_of}
use Rattle.tree.specs.Edit.{deleted, renamed, delete_done, rename_done}
use Rattle.tree.specs.Outcome.{EditOutcome, edit_if, delete_outcome, rename_outcome, Edited}
use Rattle.tree.specs.Batch.{items_of, item_outcome, BatchOutcome, ended, one_by_one}
use Rattle.tree.specs.declared.Done.{Done}
use Rattle.tree.specs.declared.Item.{Item}
use Rattle.tree.specs.declared.Batched.{Batched}
use Rattle.tree.proofs.BatchRefusals.{sound_after}
use Rattle.edit_at.specs.EditLeaves.{EditLeaves}
use Rattle.batch.specs.BatchLeaves.{BatchLeaves}
use Rattle.batch.specs.Prefix.{item_at}
use Rattle.batch.specs.Resumed.{by_end, resumed, turns_left}
use Rattle.items.specs.SoFar.{goes_on, after_item}
use Rattle.batch.proofs.ItemLaws.{item_count, refused_unchanged, columns}
use Rattle.batch.proofs.EndsLaws.{after_made, after_refused, leaves_table}
use Rattle.tree.specs.Refusal.{Checked, passed}
use Rattle.std.specs.Prelude.{Ok, Err}

-- from the table t₀ on, of the n items `is`: the answer so far is s, and the table t
pub record SoFar (is : List Item) (t₀ : Table) (n : ℕ) (s : Batched) (t : Table) : Type 0 where
  pub sound : Sound t
  -- the rest of the list gives what the whole list does
  pub rest : resumed s is t ≡ one_by_one 0 is t₀
  pub within : s.done ≤ n
  -- where no row has gone, each key stands where it stood
  pub fewer : t.count ≤ t₀.count
  pub keys : t.count ≡ t₀.count → t.key ≡ t₀.key

pub so_far_start : (is : List Item) (t : Table) (n : ℕ) → Sound t
    → SoFar is t n (record { done = 0; count = t.count; end = passed }) t
so_far_start is t n s = record { sound = s; rest = refl; within = omega arith; fewer = omega arith; keys = λ _. refl }

-- ── an item ──
-- an edit of the table t left at most as many rows, and as many only with the keys where they stood
abbrev KeysStand : Table → EditOutcome → Type 0
KeysStand t o = (o.table.count ≤ t.count) × (o.table.count ≡ t.count → o.table.key ≡ t.key)

delete_keys : (t : Table) → Sound t → (c : Checked) (d : Done) (r : ℕ) → KeysStand t (edit_if c d (deleted t r) t)
unfolding edit_if deleted
delete_keys t s (Ok u) d r = (omega arith, λ z. absurd (omega (arith, s.in_use.some)))
delete_keys t s (Err why) d r = (omega arith, λ _. refl)

rename_keys : (t : Table) (c : Checked) (d : Done) (r n : ℕ) → KeysStand t (edit_if c d (renamed t r n) t)
unfolding edit_if renamed
rename_keys t (Ok u) d r n = (omega arith, λ _. refl)
rename_keys t (Err why) d r n = (omega arith, λ _. refl)

-- so did an item
item_keys : (t : Table) → Sound t → (i : Item) → KeysStand t (item_outcome t i)
unfolding item_outcome delete_outcome rename_outcome
item_keys t s i = go (eqb i.code 1)
  where
    go : (b : Bool) → KeysStand t (cond b (delete_outcome t i.key) (rename_outcome t i.key i.name))
    go true = delete_keys t s _ (delete_done t (row_of t.key t.count i.key)) (row_of t.key t.count i.key)
    go false = rename_keys t _ (rename_done t) (row_of t.key t.count i.key) i.name

-- the columns that it leaves, with the count of the answer, are its table
left_table : (t : Table) (s : Batched) (i : Item) (e : Edited) {key size level kind name : List ℕ}
    → s.count ≡ t.count → EditLeaves (item_outcome t i) e key size level kind name
    → table_of key size level kind name (after_item s e).count ≡ (item_outcome t i).table
left_table t s i (Ok d) h l = leaves_table l (item_count t i d (sym l.answers))
left_table t s i (Err why) h l =
    leaves_table l (h ∙ ap (λ (u : Table). u.count) (sym (refused_unchanged t i why (sym l.answers))))

-- ── one item later ──
-- an item is to be tried only where none was refused and one is left
goes_on_lem : (end : Checked) (done count n : ℕ) → goes_on (record { done = done; count = count; end = end }) n ≡ true
    → (end ≡ passed) × (done < n)
goes_on_lem (Ok u) done count n h = (refl, ltb-true _ _ h)
goes_on_lem (Err why) done count n h = absurd (true≢false (sym h))

pub item_left : (s : Batched) (n : ℕ) → goes_on s n ≡ true → s.done < n
item_left s n h = (goes_on_lem s.end s.done s.count n h).1

-- each item leaves fewer turns
pub turns_less : (s : Batched) (e : Edited) (n : ℕ) → goes_on s n ≡ true
    → turns_left (after_item s e).end (after_item s e).done n < turns_left s.end s.done n
turns_less s (Ok d) n h =
    let (p, l) = goes_on_lem s.end s.done s.count n h in rw p (omega arith)
turns_less s (Err why) n h =
    let (p, l) = goes_on_lem s.end s.done s.count n h in rw p (omega arith)

-- no more are done than there are
done_within : (s : Batched) (e : Edited) (n : ℕ) → goes_on s n ≡ true → (after_item s e).done ≤ n
done_within s (Ok d) n h = let (p, l) = goes_on_lem s.end s.done s.count n h in omega arith
done_within s (Err why) n h = let (p, l) = goes_on_lem s.end s.done s.count n h in omega arith

-- what an outcome leaves, where the answer has the count of its table
pub batch_leaves : {o : BatchOutcome} (s : Batched) (t : Table) → s.count ≡ t.count
    → o ≡ ended s.done s.end t
    → BatchLeaves o s t.key t.size t.level t.kind t.name
batch_leaves s t c e = rw (e, ← c) (record {
  answers = refl;
  key_is = refl;
  size_is = refl;
  level_is = refl;
  kind_is = refl;
  name_is = refl;
})

module _ (code key name : List ℕ) (k : length code ≡ length key) (m : length code ≡ length name) where
  abbrev items : List Item
  items = items_of code key name

  -- the rest of the list, from its next item on
  rest_later : (done : ℕ) (t : Table) → done < length code
      → one_by_one done (drop done items) t ≡ one_by_one done (item_at code key name done ∷ drop (suc done) items) t
  rest_later done t l = ap (λ (is : List Item). one_by_one done is t) ((columns code key name k m).1 done l)

  -- is what the edit of that item leaves to do
  resumed_later : (s : Batched) (t : Table) → s.count ≡ t.count → goes_on s (length code) ≡ true → (e : Edited)
      {key' size level kind name' : List ℕ}
      → EditLeaves (item_outcome t (item_at code key name s.done)) e key' size level kind name'
      → resumed (after_item s e) items (table_of key' size level kind name' (after_item s e).count) ≡ resumed s items t
  resumed_later s t c h (Ok d) l =
      let (p, q) = goes_on_lem s.end s.done s.count (length code) h in
      rw (p, add-one, left_table t s _ (Ok d) c l) (sym (rest_later s.done t q
      ∙ after_made s.done _ _ t (d, sym l.answers)))
  resumed_later s t c h (Err why) l =
      let (p, r) = goes_on_lem s.end s.done s.count (length code) h in
      rw (p, left_table t s _ (Err why) c l, refused_unchanged t _ why (sym l.answers), c)
      (sym (rest_later s.done t r ∙ after_refused s.done _ _ t why (sym l.answers)))

  pub so_far_later : (t₀ : Table) (s : Batched) (t : Table) → s.count ≡ t.count → SoFar items t₀ (length code) s t
      → goes_on s (length code) ≡ true → (e : Edited) {key' size level kind name' : List ℕ}
      → EditLeaves (item_outcome t (item_at code key name s.done)) e key' size level kind name'
      → SoFar items t₀ (length code) (after_item s e) (table_of key' size level kind name' (after_item s e).count)
  so_far_later t₀ s t c f h e l =
      let i : Item = item_at code key name s.done in
      let left = left_table t s i e c l in
      let (fewer, keys) = item_keys t f.sound i in
      record {
        sound = rw left (sound_after t f.sound i);
        rest = resumed_later s t c h e l ∙ f.rest;
        within = done_within s e (length code) h;
        fewer = omega (arith, ap (λ (u : Table). u.count) left, fewer, f.fewer);
        keys = λ z. ap (λ (u : Table). u.key) left
            ∙ keys (omega (arith, ap (λ (u : Table). u.count) left, fewer, f.fewer))
            ∙ f.keys (omega (arith, ap (λ (u : Table). u.count) left, fewer, f.fewer));
      }

  -- ── no item is left to try ──
  -- the answer so far is the list's, and the table the one that it leaves
  nothing_left : (end : Checked) (done count : ℕ) (t : Table) → count ≡ t.count → done ≤ length code
      → goes_on (record { done = done; count = count; end = end }) (length code) ≡ false
      → by_end end done items t ≡ ended done end t
  unfolding one_by_one
  nothing_left (Ok u) done count t c l h =
      ap (λ (is : List Item). one_by_one done is t)
      (drop_of_length-le items {i = done} (rw (columns code key name k m).0 (ltb-false _ _ h)))
  nothing_left (Err why) done count t c l h = refl

  pub so_far_end : (t₀ : Table) (s : Batched) (t : Table) → s.count ≡ t.count → SoFar items t₀ (length code) s t
      → goes_on s (length code) ≡ false
      → BatchLeaves (one_by_one 0 items t₀) s t.key t.size t.level t.kind t.name
  so_far_end t₀ s t c f h =
      batch_leaves s t c
      (sym f.rest ∙ nothing_left s.end s.done s.count t c f.within h)
