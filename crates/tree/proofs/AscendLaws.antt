-- `ascends_only`: two strictly ascending lists with the same pairs are equal. So `listed_exactly` and `step_ascends`
-- (StepLaws.antt) determine the step's list.
-- Assumes nothing.
use mathlib.Core.Path.{◌≡◌, refl, sym, ap₂, subst, ◌∙◌}
use mathlib.Core.Logic.{inl, inr, ⊎_elim}
use mathlib.Core.List.{List, [], ◌∷◌}
use native.Mathlib.Omega.{arith}
use Rattle.tree.specs.Pairs.{Pair}
use Rattle.tree.proofs.StepLaws.{In, Before, Ascends}

-- not both ways
before_not : (p q : Pair) → Before p q → Before q p → ⊥
before_not p q (inl a) (inl b) = omega arith
before_not p q (inl a) (inr b) = omega (arith, b.0)
before_not p q (inr a) (inl b) = omega (arith, a.0)
before_not p q (inr a) (inr b) = omega (arith, a.1, b.1)

-- not before itself
before_self : (p : Pair) → Before p p → ⊥
before_self p h = before_not p p h h

-- two strictly ascending lists with the same pairs are equal
pub ascends_only : (xs ys : List Pair) → Ascends xs → Ascends ys → ((p : Pair) → In p xs → In p ys)
    → ((p : Pair) → In p ys → In p xs) → xs ≡ ys
ascends_only [] [] a b h g = refl
ascends_only [] (y ∷ ys) a b h g = absurd (g y (inl refl))
ascends_only (x ∷ xs) [] a b h g = absurd (h x (inl refl))
ascends_only (x ∷ xs) (y ∷ ys) a b h g =
    ap₂ (λ (u : Pair) (v : List Pair). u ∷ v) same (ascends_only xs ys a.1 b.1 down up)
  where
    same : x ≡ y
    same =
        ⊎_elim (λ e. e)
        (λ i. ⊎_elim (λ e. sym e) (λ j. absurd (before_not x y (a.0 y j) (b.0 x i))) (g y (inl refl)))
        (h x (inl refl))

    down : (p : Pair) → In p xs → In p ys
    down p i =
        ⊎_elim (λ (e : p ≡ y). absurd (before_self x (subst (Before x) (e ∙ sym same) (a.0 p i)))) (λ j. j)
        (h p (inr i))

    up : (p : Pair) → In p ys → In p xs
    up p i =
        ⊎_elim (λ (e : p ≡ x). absurd (before_self y (subst (Before y) (e ∙ same) (b.0 p i)))) (λ j. j) (g p (inr i))
