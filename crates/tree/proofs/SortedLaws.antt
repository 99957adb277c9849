-- Pairs that do not fall (`Sorted`): the test of refusal 4 at a place, `order_at`; a list of columns that pass it is
-- sorted, `sorted_there`, and the columns of a sorted list pass it, `sorted_back`. Assumes nothing.
use mathlib.Core.Path.{◌≡◌, refl, sym, ap, ◌∙◌}
use mathlib.Core.Logic.{◌⊎◌, inl, inr, ⊎_elim}
use mathlib.Core.Bool.{Bool, true, false, ◌&&◌}
use mathlib.Core.List.{List, [], ◌∷◌}
use Prim.Native.Nat.{ℕ, zero, suc, ◌-◌, ◌<◌, ◌≤◌}
use native.Mathlib.Omega.{arith}
use borrow.Author.Tests.{eqb-true, eqb-false, eq-eqb, ne_eqb, ltb-false, le-ltb}
use lib.Dec.{eqb, ltb}
use lib.ListN.{length}
use Rattle.tree.specs.Table.{at}
use Rattle.tree.specs.Pairs.{Pair, pair, pairs_of, roles_of, rows_of, before, out_of_order}
use Rattle.tree.proofs.AcceptLaws.{neither, neither_of}
use Rattle.tree.proofs.StepLaws.{In}

-- p does not come after q: by role, then row
abbrev pub NotAfter : Pair → Pair → Type 0
NotAfter p q = (p.role < q.role) ⊎ ((p.role ≡ q.role) × (p.row ≤ q.row))

-- no pair comes after one that follows it
abbrev pub Sorted : List Pair → Type 0
Sorted [] = Unit {0}
Sorted (p ∷ ps) = ((q : Pair) → In q ps → NotAfter p q) × Sorted ps

-- by way of a pair between them
not_after_trans : (p q s : Pair) → NotAfter p q → NotAfter q s → NotAfter p s
not_after_trans p q s (inl a) (inl b) = inl (omega arith)
not_after_trans p q s (inl a) (inr b) = inl (omega (arith, b.0))
not_after_trans p q s (inr a) (inl b) = inl (omega (arith, a.0))
not_after_trans p q s (inr a) (inr b) = inr (a.0 ∙ b.0, omega (arith, a.1, b.1))

-- where the test of refusal 4 fails, the first of two pairs does not come after the second
not_before : (p q : Pair) → before q.role q.row p.role p.row ≡ false → NotAfter p q
unfolding before
not_before p q e =
    go (eqb q.role p.role) refl (neither (ltb q.role p.role) _ e).1
  where
    go : (b : Bool) → eqb q.role p.role ≡ b → (b && ltb q.row p.row) ≡ false → NotAfter p q
    go true d h = inr (sym (eqb-true _ _ d), ltb-false _ _ h)
    go false d h =
        let l : p.role ≤ q.role = ltb-false _ _ (neither (ltb q.role p.role) _ e).0 in
        let n : q.role ≡ p.role → ⊥ = eqb-false _ _ d in
        inl (omega arith)

-- and it fails wherever the first does not come after the second
before_not : (p q : Pair) → NotAfter p q → before q.role q.row p.role p.row ≡ false
unfolding before
before_not p q (inl l) =
    neither_of (le-ltb q.role p.role (omega arith))
    (ap (λ (b : Bool). b && ltb q.row p.row) (ne_eqb q.role p.role (λ e. omega arith)))
before_not p q (inr h) =
    neither_of (le-ltb q.role p.role (omega (arith, h.0)))
    (ap (λ (b : Bool). b && ltb q.row p.row) (eq-eqb q.role p.role (sym h.0))
    ∙ le-ltb q.row p.row h.1)

-- in order at every place but the first
abbrev pub InOrder : List ℕ → List ℕ → Type 0
InOrder role row =
    (i : ℕ) → suc i < length role → before (at role (suc i)) (at row (suc i)) (at role i) (at row i) ≡ false

-- the test at a place behind the first
pub order_at : (role row : List ℕ) (i : ℕ) → out_of_order role row (suc i)
    ≡ before (at role (suc i)) (at row (suc i)) (at role i) (at row i)
unfolding out_of_order
order_at role row i =
    let z : suc i - 1 ≡ i = omega arith in
    rw (ne_eqb (suc i) 0 (λ e. omega arith), z)

-- each pair of the columns follows one that does not come after it
head_least : (r v : ℕ) (rs ws : List ℕ) → InOrder (r ∷ rs) (v ∷ ws) → (q : Pair) → In q (pairs_of rs ws)
    → NotAfter (pair r v) q
unfolding pairs_of
head_least r v [] ws o q i = absurd i
head_least r v (s ∷ rs) [] o q i = absurd i
head_least r v (s ∷ rs) (w ∷ ws) o q i =
    let n : NotAfter (pair r v) (pair s w) = not_before (pair r v) (pair s w) (o 0 (omega arith)) in
    ⊎_elim (λ (e : q ≡ pair s w). rw e n)
    (λ j. not_after_trans (pair r v) (pair s w) q n
    (head_least s w rs ws (λ k l. o (suc k) (omega arith)) q j)) i

-- columns in order are a sorted list
pub sorted_there : (role row : List ℕ) → InOrder role row → Sorted (pairs_of role row)
unfolding pairs_of
sorted_there [] ws o = tt
sorted_there (r ∷ rs) [] o = tt
sorted_there (r ∷ rs) (w ∷ ws) o =
    (head_least r w rs ws o, sorted_there rs ws (λ k l. o (suc k) (omega arith)))

-- and the columns of a sorted list are in order
sorted_order : (ps : List Pair) → Sorted ps → InOrder (roles_of ps) (rows_of ps)
unfolding roles_of rows_of
sorted_order [] s i l = absurd (omega arith)
sorted_order (p ∷ []) s i l = absurd (omega arith)
sorted_order (p ∷ q ∷ ps) s zero l = before_not p q (s.0 q (inl refl))
sorted_order (p ∷ q ∷ ps) s (suc i) l = sorted_order (q ∷ ps) s.1 i (omega arith)

-- so refusal 4 does not apply to them
pub sorted_back : (ps : List Pair) → Sorted ps → (i : ℕ) → i < length (roles_of ps)
    → out_of_order (roles_of ps) (rows_of ps) i ≡ false
unfolding out_of_order
sorted_back ps s zero l = refl
sorted_back ps s (suc i) l = order_at (roles_of ps) (rows_of ps) i ∙ sorted_order ps s i l
