-- The check of pairs whose columns have one length of at most 4,096: order, then rows (`pair_check_is`); without a
-- wrong place they pass (`pairs_pass`). The order place by place: `order_first`, `order_next`. Assumes nothing.
use mathlib.Core.Path.{◌≡◌, ap, ◌∙◌}
use mathlib.Core.Bool.{Bool, false, not, ◌&&◌, and-false}
use mathlib.Core.List.{List}
use Prim.Native.Nat.{ℕ, ◌+◌, ◌-◌, ◌<◌, ◌≤◌}
use native.Mathlib.Nat.{le_refl}
use native.Mathlib.Omega.{arith}
use borrow.Author.Count.{below_more}
use borrow.Author.Tests.{eq-eqb, le-ltb, lt-ltb}
use lib.Dec.{eqb, ltb}
use lib.ListN.{length}
use Rattle.tree.specs.Table.{at}
use Rattle.tree.specs.Search.{least}
use Rattle.tree.specs.Pairs.{before, out_of_order}
use Rattle.tree.specs.declared.Refusal.TheVariants.{PairOutOfOrder, PairOutsideTable}
use Rattle.tree.specs.Refusal.{given, given_at, next, pair_check, passed}
use Rattle.tree.proofs.SearchLaws.{least_none}
use Rattle.pairs.specs.Places.{Ordered, Inside}

pub pair_check_is : (role row : List ℕ) (n : ℕ) → length role ≡ length row → length role ≤ 4096
    → pair_check role row n
    ≡ next (given_at (out_of_order role row) (length role) PairOutOfOrder)
    (given_at (λ i. not (ltb (at row i) n)) (length row) PairOutsideTable)
unfolding pair_check given next
pair_check_is role row n e l =
    let outside : ℕ → Bool = λ i. not (ltb (at row i) n) in
    rw (eq-eqb (length role) (length row) e, le-ltb 4096 (length role) l)
    (ap (λ (k : ℕ). next (given_at (out_of_order role row) (length role) PairOutOfOrder)
    (given_at outside k PairOutsideTable)) e)

-- no pair below place i is less than the one before it
abbrev pub OrderedBelow : List ℕ → List ℕ → ℕ → Type 0
OrderedBelow role row i = (k : ℕ) → k < i → out_of_order role row k ≡ false

pub order_first : (role row : List ℕ) → OrderedBelow role row 1
unfolding out_of_order
order_first role row k l = let z : k ≡ 0 = omega arith in rw z

pub order_next : (role row : List ℕ) (i : ℕ) → OrderedBelow role row i
    → before (at role i) (at row i) (at role (i - 1)) (at row (i - 1)) ≡ false → OrderedBelow role row (i + 1)
unfolding out_of_order
order_next role row i h e =
    below_more _ _ h (ap (λ (b : Bool). not (eqb i 0) && b) e ∙ and-false (not (eqb i 0)))

-- pairs without a wrong place pass
pub pairs_pass : (role row : List ℕ) (n : ℕ) → length role ≡ length row → length role ≤ 4096 → Ordered role row
    → Inside row n
    → pair_check role row n ≡ passed
unfolding given_at given next
pairs_pass role row n e l o i =
    let p : least (out_of_order role row) (length role) ≡ length role =
    least_none (out_of_order role row) (length role) o.places in
    let q : least (λ k. not (ltb (at row k) n)) (length row) ≡ length row =
    least_none (λ k. not (ltb (at row k) n)) (length row) (λ k m. ap not (lt-ltb (at row k) n (i.places k m))) in
    pair_check_is role row n e l ∙ rw (
      p,
      q,
      le-ltb (length role) (length role) (le_refl (length role)),
      le-ltb (length row) (length row) (le_refl (length row)),
    )
