-- Demand 3 over a list of changes: RULES 02, E4. Lists end alike (`EndAlike`, specs/Order.antt) where they give the
-- same answer and leave the same rows in use. Two neighbours that are independent on the table that the items before
-- them leave may change places: `neighbours`, and of the public call `batch_neighbours`. What follows them reads no
-- spare rows: `in_use_list`. Items that are each accepted on the starting table, and any two of them independent there
-- (`Pairwise`), are all accepted in turn and all done, `pairwise_accepted`, `pairwise_done`, and may be done in any
-- order: `any_order`, and of the public call `batch_any_order`. Assumes nothing.
use mathlib.Core.Path.{◌≡◌, refl, sym, ap, subst, subst₂, ◌∙◌}
use mathlib.Core.Bool.{Bool, true, false, cond}
use mathlib.Core.List.{List, [], ◌∷◌, ◌++◌}
use Prim.Native.Nat.{ℕ, suc, ◌+◌}
use native.Mathlib.Omega.{arith}
use lib.Dec.{eqb}
use lib.ListN.{length, take}
use lib.Seq.{take-length}
use Rattle.tree.specs.Table.{Table, SameRows}
use Rattle.tree.specs.Outcome.{EditOutcome, Edited}
use Rattle.tree.specs.Batch.{items_of, item_outcome, BatchOutcome, ended, one_by_one, batch_check, batch_outcome}
use Rattle.tree.specs.declared.Batched.{Batched}
use Rattle.tree.specs.declared.Item.{Item}
use Rattle.after_edit.specs.Act.{deletion, renaming, outcome, Accepted, brings}
use Rattle.after_edit.specs.Independent.{Independent, in_turn}
use Rattle.after_edit.specs.Spare.{SameRoom}
use Rattle.after_edit.proofs.InUseLaws.{in_use_edit}
use Rattle.after_edit.proofs.EitherOrder.{either_order}
use Rattle.after_edit.proofs.InTurnLaws.{flipped}
use Rattle.batch.specs.Prefix.{act_of, AllAccepted, table_after_all}
use Rattle.batch.specs.Order.{EndAlike, IndependentOfAll, Pairwise, Reordered, same, exchanged, later, twice}
use Rattle.after_edit.proofs.StillIndependent.{still_independent}
use Rattle.batch.proofs.ItemLaws.{item_act}
use Rattle.batch.proofs.EndsLaws.{after_made, after_refused}
use Rattle.batch.proofs.BatchLaws.{list_longest, list_all_done, batch_is}
use Rattle.tree.specs.Refusal.{Checked, passed}
use Rattle.std.specs.Prelude.{Ok, Err}

-- ── spare rows are not read ──
-- no item asks for room
same_room : (i : Item) (t u : Table) → SameRoom (act_of i) t u
same_room i t u = go (eqb i.code 1)
  where
    go : (b : Bool) → SameRoom (cond b (deletion i.key) (renaming i.key i.name)) t u
    go true = tt
    go false = tt

-- on tables with the same rows in use an item gets the same answer, and leaves the same rows in use
in_use_item : (t u : Table) → SameRows t u → (i : Item)
    → ((item_outcome t i).answer ≡ (item_outcome u i).answer)
    × SameRows (item_outcome t i).table (item_outcome u i).table
in_use_item t u s i = rw (item_act t i, item_act u i) (in_use_edit t u s (act_of i) (same_room i t u))

-- lists that end at the same place for the same reason, with the same rows in use, end alike
ended_alike : (n : ℕ) (end : Checked) (t u : Table) → SameRows t u → EndAlike (ended n end t) (ended n end u)
ended_alike n end t u s = record { answer = ap answered s.count; rows = s }
  where
    answered : ℕ → Batched
    answered c = record { done = n; count = c; end = end }

-- and so does a list
pub in_use_list : (is : List Item) (n : ℕ) (t u : Table) → SameRows t u
    → EndAlike (one_by_one n is t) (one_by_one n is u)
unfolding one_by_one
in_use_list [] n t u s = ended_alike n passed t u s
in_use_list (i ∷ is) n t u s =
    go (item_outcome t i).answer refl (in_use_item t u s i) (λ r. in_use_list is (suc n) _ _ r)
  where
    go : (a : Edited) → (item_outcome t i).answer ≡ a
        → ((item_outcome t i).answer ≡ (item_outcome u i).answer)
        × SameRows (item_outcome t i).table (item_outcome u i).table
        → (SameRows (item_outcome t i).table (item_outcome u i).table
        → EndAlike (one_by_one (suc n) is (item_outcome t i).table) (one_by_one (suc n) is (item_outcome u i).table))
        → EndAlike (one_by_one n (i ∷ is) t) (one_by_one n (i ∷ is) u)
    go (Ok d) e h next =
        subst₂ EndAlike (sym (after_made n i is t (d, e))) (sym (after_made n i is u (d, sym h.0 ∙ e)))
        (next h.1)
    go (Err why) e h next =
        subst₂ EndAlike (sym (after_refused n i is t why e)) (sym (after_refused n i is u why (sym h.0 ∙ e)))
        (ended_alike n (Err why) t u s)

-- ── two neighbours ──
-- what comes after a front that is all accepted
after_front : (front is : List Item) (n : ℕ) (t : Table) → AllAccepted front t
    → one_by_one n (front ++ is) t ≡ one_by_one (n + length front) is (table_after_all front t)
unfolding table_after_all
after_front [] is n t h = ap (λ (k : ℕ). one_by_one k is t) (let z : n ≡ n + 0 = omega arith in z)
after_front (i ∷ front) is n t h =
    let u : Table = (item_outcome t i).table in
    after_made n i (front ++ is) t h.0
    ∙ after_front front is (suc n) u h.1
    ∙ ap (λ (k : ℕ). one_by_one k is (table_after_all front u))
    (let z : suc n + length front ≡ n + suc (length front) = omega arith in z)

-- two items in turn are their edits in turn
items_in_turn : (a b : Item) (t : Table) → item_outcome (item_outcome t a).table b ≡ in_turn (act_of a) (act_of b) t
items_in_turn a b t =
    item_act (item_outcome t a).table b ∙ ap (λ (o : EditOutcome). outcome (act_of b) o.table) (item_act t a)

-- two items that are accepted in turn, and then the others
after_two : (a b : Item) (is : List Item) (n : ℕ) (t : Table) → Accepted (outcome (act_of a) t)
    → Accepted (in_turn (act_of a) (act_of b) t)
    → one_by_one n (a ∷ b ∷ is) t ≡ one_by_one (suc (suc n)) is (in_turn (act_of a) (act_of b) t).table
after_two a b is n t x y =
    after_made n a (b ∷ is) t (subst Accepted (sym (item_act t a)) x)
    ∙ after_made (suc n) b is (item_outcome t a).table (subst Accepted (sym (items_in_turn a b t)) y)
    ∙ ap (λ (o : EditOutcome). one_by_one (suc (suc n)) is o.table) (items_in_turn a b t)

-- two independent items in either order, and then the others
first_two : (a b : Item) (is : List Item) (n : ℕ) (t : Table) → Independent (act_of a) (act_of b) t
    → EndAlike (one_by_one n (a ∷ b ∷ is) t) (one_by_one n (b ∷ a ∷ is) t)
first_two a b is n t i =
    let (x, y, s) = either_order (act_of a) (act_of b) t i in
    subst₂ EndAlike (sym (after_two a b is n t i.accepted_a x)) (sym (after_two b a is n t i.accepted_b y))
    (in_use_list is (suc (suc n)) _ _ s)

-- demand 3 inside a list: two neighbours that are independent on the table that the items before them leave may change
-- places, and the list ends alike
pub neighbours : (before after : List Item) (a b : Item) (t : Table) → AllAccepted before t
    → Independent (act_of a) (act_of b) (table_after_all before t)
    → EndAlike (one_by_one 0 (before ++ a ∷ b ∷ after) t) (one_by_one 0 (before ++ b ∷ a ∷ after) t)
neighbours before after a b t h i =
    subst₂ EndAlike (sym (after_front before (a ∷ b ∷ after) 0 t h)) (sym (after_front before (b ∷ a ∷ after) 0 t h))
    (first_two a b after (0 + length before) (table_after_all before t) i)

-- the same of the public call, on two lists that differ by such an exchange
pub batch_neighbours : (t : Table) (code key name code' key' name' : List ℕ) (before after : List Item) (a b : Item)
    → batch_check t code key name ≡ passed → items_of code key name ≡ before ++ a ∷ b ∷ after
    → batch_check t code' key' name' ≡ passed → items_of code' key' name' ≡ before ++ b ∷ a ∷ after
    → AllAccepted before t → Independent (act_of a) (act_of b) (table_after_all before t)
    → EndAlike (batch_outcome t code key name) (batch_outcome t code' key' name')
batch_neighbours t code key name code' key' name' before after a b p x q y h i =
    rw (batch_is t code key name p, batch_is t code' key' name' q, x, y) (neighbours before after a b t h i)

-- ── any order ──
-- no item brings rows
brings_nothing : (i : Item) → brings (act_of i) ≡ 0
brings_nothing i = go (eqb i.code 1)
  where
    go : (b : Bool) → brings (cond b (deletion i.key) (renaming i.key i.name)) ≡ 0
    go true = refl
    go false = refl

-- where one item is done, another that was independent of it is still independent of those that both were
still_of_all : (i a : Item) (bs : List Item) (t : Table) → Independent (act_of i) (act_of a) t → IndependentOfAll i bs t
    → IndependentOfAll a bs t → IndependentOfAll a bs (outcome (act_of i) t).table
still_of_all i a [] t ia ib ab = tt
still_of_all i a (b ∷ bs) t ia ib ab = (
  still_independent (act_of i) (act_of a) (act_of b) t (brings_nothing a) (brings_nothing b) ia ib.0 ab.0,
  still_of_all i a bs t ia ib.1 ab.1,
)

-- so the others are still accepted and pairwise independent
still_pairwise : (i : Item) (is : List Item) (t : Table) → IndependentOfAll i is t → Pairwise is t
    → Pairwise is (outcome (act_of i) t).table
still_pairwise i [] t h p = tt
still_pairwise i (a ∷ is) t h p = (
  subst Accepted (sym (item_act (outcome (act_of i) t).table a)) (either_order (act_of i) (act_of a) t h.0).0,
  still_of_all i a is t h.0 h.1 p.1,
  still_pairwise i is t h.1 p.2,
)

-- on the table that the first one leaves
pairwise_after : (i : Item) (is : List Item) (t : Table) → Pairwise (i ∷ is) t → Pairwise is (item_outcome t i).table
pairwise_after i is t p = rw (item_act t i) (still_pairwise i is t p.1 p.2)

-- all of them are accepted in turn
pub pairwise_accepted : (is : List Item) (t : Table) → Pairwise is t → AllAccepted is t
pairwise_accepted [] t p = tt
pairwise_accepted (i ∷ is) t p = (p.0, pairwise_accepted is (item_outcome t i).table (pairwise_after i is t p))

-- the conditions do not depend on the order
of_all_reordered : {is js : List Item} → Reordered is js → (i : Item) (t : Table) → IndependentOfAll i is t
    → IndependentOfAll i js t
of_all_reordered same i t h = h
of_all_reordered exchanged i t h = (h.1.0, (h.0, h.1.1))
of_all_reordered (later r) i t h = (h.0, of_all_reordered r i t h.1)
of_all_reordered (twice r q) i t h = of_all_reordered q i t (of_all_reordered r i t h)

pairwise_reordered : {is js : List Item} → Reordered is js → (t : Table) → Pairwise is t → Pairwise js t
pairwise_reordered same t p = p
pairwise_reordered (exchanged {a} {b}) t p =
    (p.2.0, (flipped (act_of a) (act_of b) t p.1.0, p.2.1), (p.0, p.1.1, p.2.2))
pairwise_reordered (later {i} r) t p = (p.0, of_all_reordered r i t p.1, pairwise_reordered r t p.2)
pairwise_reordered (twice r q) t p = pairwise_reordered q t (pairwise_reordered r t p)

-- a list ends as itself
alike_itself : (o : BatchOutcome) → EndAlike o o
alike_itself o = record {
  answer = refl;
  rows = record { count = refl; key = refl; size = refl; level = refl; kind = refl; name = refl };
}

-- and as one that ends as another does
alike_alike : {o q r : BatchOutcome} → EndAlike o q → EndAlike q r → EndAlike o r
alike_alike x y = record {
  answer = x.answer ∙ y.answer;
  rows = record {
    count = x.rows.count ∙ y.rows.count;
    key = x.rows.key ∙ y.rows.key;
    size = x.rows.size ∙ y.rows.size;
    level = x.rows.level ∙ y.rows.level;
    kind = x.rows.kind ∙ y.rows.kind;
    name = x.rows.name ∙ y.rows.name;
  };
}

-- pairwise independent items may be done in any order: the list ends alike
pub any_order : {is js : List Item} → Reordered is js → (n : ℕ) (t : Table) → Pairwise is t
    → EndAlike (one_by_one n is t) (one_by_one n js t)
any_order {is} same n t p = alike_itself (one_by_one n is t)
any_order (exchanged {a} {b} {is}) n t p = first_two a b is n t p.1.0
any_order (later {i} {is} {js} r) n t p =
    subst₂ EndAlike (sym (after_made n i is t p.0)) (sym (after_made n i js t p.0))
    (any_order r (suc n) (item_outcome t i).table (pairwise_after i is t p))
any_order (twice r q) n t p = alike_alike (any_order r n t p) (any_order q n t (pairwise_reordered r t p))

-- all of them are done, in any order
pub pairwise_done : (is : List Item) (t : Table) → Pairwise is t → (one_by_one 0 is t).answer.end ≡ passed
pairwise_done is t p =
    let h : AllAccepted (take (length is) is) t = rw take-length (pairwise_accepted is t p) in
    let l = ((list_longest is t).longest (length is) (omega arith)).0 h in
    let w = (list_longest is t).within in
    (list_all_done is t).1 (omega arith)

-- the same of the public call, on two lists of the same items
pub batch_any_order : (t : Table) (code key name code' key' name' : List ℕ)
    → batch_check t code key name ≡ passed → batch_check t code' key' name' ≡ passed
    → Reordered (items_of code key name) (items_of code' key' name') → Pairwise (items_of code key name) t
    → ((batch_outcome t code key name).answer.end ≡ passed)
    × EndAlike (batch_outcome t code key name) (batch_outcome t code' key' name')
batch_any_order t code key name code' key' name' p q r h =
    rw (batch_is t code key name p, batch_is t code' key' name' q)
    (pairwise_done (items_of code key name) t h, any_order r 0 t h)
