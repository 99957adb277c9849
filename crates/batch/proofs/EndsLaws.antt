-- How a list of changes ends, as a relation by cases on its first item, `Ends`: the device by which the theorems of
-- BatchLaws.antt are proved. An item done or refused: `after_made`, `after_refused`; what its call leaves, as a table:
-- `leaves_table`. The list ends so and no other way, `ends_there`, `ends`, `ends_are`; so do the calls of a caller,
-- `calls_end`, `end_calls`. What follows by cases: `ends_within`, `ends_longest`, `ends_all`, `ends_table`,
-- `ends_refused`, `ends_sound`. Assumes nothing.
use mathlib.Core.Path.{◌≡◌, refl, sym, ap, subst, ◌∙◌}
use mathlib.Core.Logic.{◌↔◌}
use mathlib.Core.List.{List, [], ◌∷◌}
use Prim.Native.Nat.{ℕ, zero, suc, ◌+◌, ◌≤◌}
use native.Mathlib.Omega.{arith}
use lib.ListN.{length, take}
use Rattle.tree.specs.Table.{Table, table_of}
use Rattle.tree.specs.Rules.{Sound}
use Rattle.tree.specs.Outcome.{EditOutcome, Edited}
use Rattle.tree.specs.Batch.{item_outcome, BatchOutcome, ended, unless_refused, one_by_one}
use Rattle.tree.specs.declared.Item.{Item}
use Rattle.tree.proofs.BatchRefusals.{sound_after}
use Rattle.after_edit.specs.Act.{Accepted}
use Rattle.edit_at.specs.EditLeaves.{EditLeaves}
use Rattle.batch.specs.Prefix.{AllAccepted, table_after_all, RefusedAt}
use Rattle.batch.specs.Calls.{Calls, over, accepted, refused}
use Rattle.batch.proofs.ItemLaws.{item_count, refused_unchanged, not_both}
use Rattle.tree.specs.Refusal.{Checked, passed}
use Rattle.std.specs.Prelude.{Ok, Err}
use Rattle.tree.specs.declared.Refusal.{Refusal}

-- ── how a list ends ──
-- the items from a table on: how many are done, what ends them, and the table that is left
pub data Ends : List Item → Table → ℕ → Checked → Table → Type 0 where
  none : {t : Table} → Ends [] t 0 passed t
  made : {i : Item} {is : List Item} {t last : Table} {k : ℕ} {end : Checked} → Accepted (item_outcome t i)
      → Ends is (item_outcome t i).table k end last → Ends (i ∷ is) t (suc k) end last
  stopped : {i : Item} {is : List Item} {t : Table} {why : Refusal} → (item_outcome t i).answer ≡ Err why
      → Ends (i ∷ is) t 0 (Err why) t

-- an accepted item, and then the others
pub after_made : (n : ℕ) (i : Item) (is : List Item) (t : Table) → Accepted (item_outcome t i)
    → one_by_one n (i ∷ is) t ≡ one_by_one (suc n) is (item_outcome t i).table
unfolding one_by_one unless_refused
after_made n i is t h = rw h.1

-- a refused item, and then none
pub after_refused : (n : ℕ) (i : Item) (is : List Item) (t : Table) (why : Refusal)
    → (item_outcome t i).answer ≡ Err why
    → one_by_one n (i ∷ is) t ≡ ended n (Err why) t
unfolding one_by_one unless_refused
after_refused n i is t why e = rw (e, refused_unchanged t i why e)

-- the list ends so
pub ends_are : {is : List Item} {t last : Table} {k : ℕ} {end : Checked} → Ends is t k end last
    → (n : ℕ) → one_by_one n is t ≡ ended (n + k) end last
unfolding one_by_one
ends_are {t = t} none n = ap (λ (x : ℕ). ended x passed t) (let z : n ≡ n + 0 = omega arith in z)
ends_are (made {i} {is} {t} {last} {k} {end} h e) n =
    after_made n i is t h ∙ ends_are e (suc n)
    ∙ ap (λ (x : ℕ). ended x end last) (let z : suc n + k ≡ n + suc k = omega arith in z)
ends_are (stopped {i} {is} {t} {why} e) n =
    after_refused n i is t why e ∙ ap (λ (x : ℕ). ended x (Err why) t) (let z : n ≡ n + 0 = omega arith in z)

-- there is such an end
pub ends_there : (is : List Item) (t : Table) → (k : ℕ) × (end : Checked) × (last : Table) × Ends is t k end last
ends_there [] t = (0, passed, t, none)
ends_there (i ∷ is) t = go (item_outcome t i).answer refl (ends_there is (item_outcome t i).table)
  where
    go : (a : Edited) → (item_outcome t i).answer ≡ a
        → (k : ℕ) × (end : Checked) × (last : Table) × Ends is (item_outcome t i).table k end last
        → (k : ℕ) × (end : Checked) × (last : Table) × Ends (i ∷ is) t k end last
    go (Ok d) e h = let (k, end, last, x) = h in (suc k, end, last, made (d, e) x)
    go (Err why) e h = (0, Err why, t, stopped e)

-- and it is the one that the list has
pub ends : (is : List Item) (t : Table)
    → Ends is t (one_by_one 0 is t).answer.done (one_by_one 0 is t).answer.end (one_by_one 0 is t).table
ends is t =
    let (k, end, last, x) = ends_there is t in
    subst (λ (o : BatchOutcome). Ends is t o.answer.done o.answer.end o.table)
    (sym (ends_are x 0 ∙ ap (λ (n : ℕ). ended n end last) (let z : 0 + k ≡ k = omega arith in z))) x

-- ── the calls one by one ──
-- what a call leaves, as a table
pub leaves_table : {o : EditOutcome} {a : Edited} {key size level kind name : List ℕ} {n : ℕ}
    → EditLeaves o a key size level kind name → n ≡ o.table.count → table_of key size level kind name n ≡ o.table
leaves_table l e = rw (l.key_is, l.size_is, l.level_is, l.kind_is, l.name_is, e)

-- the calls of a caller end as the items do
pub calls_end : {is : List Item} {t last : Table} {n : ℕ} {end : Checked} → Calls is t n end last → Ends is t n end last
calls_end over = none
calls_end (accepted {i} {is} {t} {last} {d} {n = n} {end} l c) =
    let e : (item_outcome t i).answer ≡ Ok d = sym l.answers in
    made (d, e) (subst (λ (u : Table). Ends is u n end last) (leaves_table l (item_count t i d e)) (calls_end c))
calls_end (refused {i} {is} {t} {why} l) =
    let e : (item_outcome t i).answer ≡ Err why = sym l.answers in
    let u : (item_outcome t i).table ≡ t = refused_unchanged t i why e in
    subst (Ends (i ∷ is) t 0 (Err why))
    (sym (leaves_table l (ap (λ (x : Table). x.count) (sym u)) ∙ u)) (stopped e)

-- what a call leaves is what its outcome has
leaves_itself : (o : EditOutcome) (a : Edited) → o.answer ≡ a
    → EditLeaves o a o.table.key o.table.size o.table.level o.table.kind o.table.name
leaves_itself o a e = record {
  answers = sym e;
  key_is = refl;
  size_is = refl;
  level_is = refl;
  kind_is = refl;
  name_is = refl;
}

-- so there are calls that end so
pub end_calls : {is : List Item} {t last : Table} {n : ℕ} {end : Checked} → Ends is t n end last → Calls is t n end last
end_calls none = over
end_calls (made {i} {is} {t} {last} {k} {end} h e) =
    let l = leaves_itself (item_outcome t i) (Ok h.0) h.1 in
    accepted l (subst (λ (u : Table). Calls is u k end last) (sym (leaves_table l (item_count t i h.0 h.1)))
    (end_calls e))
end_calls (stopped {i} {is} {t} {why} e) =
    let u : (item_outcome t i).table ≡ t = refused_unchanged t i why e in
    let l = leaves_itself (item_outcome t i) (Err why) e in
    subst (Calls (i ∷ is) t 0 (Err why)) (leaves_table l (ap (λ (x : Table). x.count) (sym u)) ∙ u) (refused l)

-- ── the longest front ──
-- no more are done than there are
pub ends_within : {is : List Item} {t last : Table} {n : ℕ} {end : Checked} → Ends is t n end last → n ≤ length is
ends_within none = omega arith
ends_within (made h e) = let l = ends_within e in omega arith
ends_within (stopped e) = omega arith

-- a front is accepted exactly if it is no longer than what was done
pub ends_longest : {is : List Item} {t last : Table} {n : ℕ} {end : Checked} → Ends is t n end last
    → (m : ℕ) → m ≤ length is → AllAccepted (take m is) t ↔ (m ≤ n)
ends_longest none zero l = (λ _. omega arith, λ _. tt)
ends_longest none (suc m) l = absurd (omega arith)
ends_longest (made h e) zero l = (λ _. omega arith, λ _. tt)
ends_longest (made h e) (suc m) l =
    let r = ends_longest e m (omega arith) in
    (λ x. let y = r.0 x.1 in omega arith, λ y. (h, r.1 (omega arith)))
ends_longest (stopped e) zero l = (λ _. omega arith, λ _. tt)
ends_longest (stopped {i} {t = t} e) (suc m) l =
    (λ x. absurd (not_both (item_outcome t i) e x.0), λ y. absurd (omega arith))

-- all are done exactly if nothing was refused
pub ends_all : {is : List Item} {t last : Table} {n : ℕ} {end : Checked} → Ends is t n end last
    → (end ≡ passed) ↔ (n ≡ length is)
ends_all none = (λ _. refl, λ _. refl)
ends_all (made h e) = let r = ends_all e in (λ x. ap suc (r.0 x), λ y. r.1 (omega arith))
ends_all (stopped e) = (λ x. let z : ◌≡◌ {A = ℕ} 0 1 = cc in absurd (omega arith), λ y. absurd (omega arith))

-- ── the item that is refused ──
-- the table is the one that the items done leave
pub ends_table : {is : List Item} {t last : Table} {n : ℕ} {end : Checked} → Ends is t n end last
    → last ≡ table_after_all (take n is) t
unfolding table_after_all
ends_table none = refl
ends_table (made h e) = ends_table e
ends_table (stopped e) = refl

-- what ended the list is what the next item answers on that table
pub ends_refused : {is : List Item} {t last : Table} {n : ℕ} {end : Checked} → Ends is t n end last
    → (why : Refusal) → end ≡ Err why → RefusedAt is n last why
ends_refused none why q = let z : ◌≡◌ {A = ℕ} 0 1 = cc in absurd (omega arith)
ends_refused (made h e) why q =
    let r = ends_refused e why q in
    record {
      here = r.here;
      rest = r.rest;
      place = r.place;
      answer = r.answer;
      unchanged = r.unchanged;
    }
ends_refused (stopped {i} {is} {t} {why = other} e) why q =
    let y : (item_outcome t i).answer ≡ Err why = e ∙ (cc) in
    record {
      here = i;
      rest = is;
      place = refl;
      answer = y;
      unchanged = refused_unchanged t i why y;
    }

-- ── soundness ──
-- the table is sound again
pub ends_sound : {is : List Item} {t last : Table} {n : ℕ} {end : Checked} → Ends is t n end last → Sound t → Sound last
ends_sound none s = s
ends_sound (made {i} {t = t} h e) s = ends_sound e (sound_after t s i)
ends_sound (stopped e) s = s
