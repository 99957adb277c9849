-- An item of a list of changes. Its call is that of the edit that it asks for, `item_act`. Accepted, it answers the
-- count of the table that it leaves, `item_count`. Refused, it leaves the table as it is, `refused_unchanged`; it is
-- never both, `not_both`. The items of three columns are their rows, `columns`. Assumes nothing.
use mathlib.Core.Path.{◌≡◌, refl, ap}
use mathlib.Core.Bool.{Bool, true, false, cond}
use mathlib.Core.List.{List, [], ◌∷◌}
use Prim.Native.Nat.{ℕ, zero, suc, ◌<◌}
use native.Mathlib.Omega.{arith}
use lib.Dec.{eqb}
use lib.ListN.{length, drop}
use Rattle.tree.specs.Table.{Table}
use Rattle.tree.specs.Edit.{inserted, deleted, renamed, insert_done, delete_done, rename_done}
use Rattle.tree.specs.Outcome.{EditOutcome, edit_if, edit_check, delete_outcome, rename_outcome}
use Rattle.tree.specs.Batch.{items_of, item_outcome}
use Rattle.tree.specs.declared.Done.{Done}
use Rattle.tree.specs.declared.Item.{Item}
use Rattle.after_edit.specs.Act.{Act, insertion, deletion, renaming, outcome, Accepted, key_of, table_after, done_of}
use Rattle.after_edit.proofs.ActLaws.{own, outcome_is, accepted_has}
use Rattle.batch.specs.Prefix.{act_of, item_at}
use Rattle.tree.specs.Refusal.{Checked}
use Rattle.std.specs.Prelude.{Ok, Err}
use Rattle.tree.specs.declared.Refusal.{Refusal}

-- its call is that of the edit that it asks for
pub item_act : (t : Table) (i : Item) → item_outcome t i ≡ outcome (act_of i) t
unfolding item_outcome
item_act t i = go (eqb i.code 1)
  where
    go : (b : Bool) → cond b (delete_outcome t i.key) (rename_outcome t i.key i.name)
        ≡ outcome (cond b (deletion i.key) (renaming i.key i.name)) t
    go true = refl
    go false = refl

-- the definitions answer the count of the table that they give
done_count : (a : Act) (t : Table) → (done_of a t).count ≡ (table_after a t).count
unfolding inserted deleted renamed insert_done delete_done rename_done
done_count (insertion k p) t = refl
done_count (deletion k) t = refl
done_count (renaming k m) t = refl

-- so an accepted item answers the count of the table that it leaves
pub item_count : (t : Table) (i : Item) (d : Done) → (item_outcome t i).answer ≡ Ok d
    → d.count ≡ (item_outcome t i).table.count
item_count t i d = rw (item_act t i) (λ e.
    accepted_has (λ (d : Done) (u : Table). d.count ≡ u.count) (act_of i) t d e (λ f. done_count (act_of i) t))

-- a refused item leaves the table as it is
pub refused_unchanged : (t : Table) (i : Item) (why : Refusal) → (item_outcome t i).answer ≡ Err why
    → (item_outcome t i).table ≡ t
unfolding edit_if
refused_unchanged t i why =
    let a : Act = act_of i in
    rw (item_act t i, outcome_is a t) (go (edit_check t (key_of a) (own a t)) (done_of a t) (table_after a t))
  where
    go : (c : Checked) (d : Done) (u : Table) → (edit_if c d u t).answer ≡ Err why → (edit_if c d u t).table ≡ t
    go (Ok v) d u e = let z : ◌≡◌ {A = ℕ} 0 1 = cc in absurd (omega arith)
    go (Err other) d u e = refl

-- an item that is refused is not accepted
pub not_both : (o : EditOutcome) {why : Refusal} → o.answer ≡ Err why → Accepted o → ⊥
not_both o e h = let d = h.1 in let z : ◌≡◌ {A = ℕ} 0 1 = cc in omega arith

-- ── the columns ──
-- three columns of the same length are as many items, and the item at a place has what the columns have there
pub columns : (code key name : List ℕ) → length code ≡ length key → length code ≡ length name
    → (length (items_of code key name) ≡ length code)
    × ((n : ℕ) → n < length code
    → drop n (items_of code key name) ≡ item_at code key name n ∷ drop (suc n) (items_of code key name))
unfolding items_of
columns [] ks ms e f = (refl, λ n l. absurd (omega arith))
columns (c ∷ cs) [] ms e f = absurd (omega arith)
columns (c ∷ cs) (k ∷ ks) [] e f = absurd (omega arith)
columns (c ∷ cs) (k ∷ ks) (m ∷ ms) e f =
    let r = columns cs ks ms (omega arith) (omega arith) in (ap suc r.0, places r.1)
  where
    places : ((n : ℕ) → n < length cs → drop n (items_of cs ks ms) ≡ item_at cs ks ms n ∷ drop (suc n)
        (items_of cs ks ms))
        → (n : ℕ) → n < length (c ∷ cs) → drop n (items_of (c ∷ cs) (k ∷ ks) (m ∷ ms))
        ≡ item_at (c ∷ cs) (k ∷ ks) (m ∷ ms) n ∷ drop (suc n) (items_of (c ∷ cs) (k ∷ ks) (m ∷ ms))
    places h zero l = refl
    places h (suc n) l = h n (omega arith)
