-- A refusal's number and place tell the refusal: `reason` reads both back, `reason_of`. So what is known of a call's
-- answer by its refusal is known by number and place: `told_is`, `told_there` for a refusal with a place, `told_plain`
-- for one whose place is 0. Assumes nothing.
use mathlib.Core.Path.{◌≡◌, refl, sym, ap, ap₂, ◌∙◌}
use mathlib.Core.Logic.{◌↔◌}
use Prim.Native.Nat.{ℕ}
use native.Mathlib.Omega.{arith}
use Rattle.std.specs.Prelude.{Result, Ok, Err, get_or}
use mathlib.Core.List.{[], ◌∷◌}
use Rattle.tree.specs.Number.{number, place, told}
use Rattle.tree.specs.declared.Refusal.{Refusal}
use Rattle.tree.specs.declared.Refusal.TheVariants.{BadCount, UnsoundRow, BadPairColumns, PairOutOfOrder}
use Rattle.tree.specs.declared.Refusal.TheVariants.{PairOutsideTable, BadAxis, BadTest, TooManyResults, UnknownKey}
use Rattle.tree.specs.declared.Refusal.TheVariants.{BadPiece, NotAParent, TooDeep, KeyTaken, NoRoom, DeletesRoot}
use Rattle.tree.specs.declared.Refusal.TheVariants.{BadRename, BadMove, BadList}

-- the refusal of a number and a place; 18 stands for every other number too
abbrev pub reason : ℕ → ℕ → Refusal
reason n p =
    get_or
    (BadList ∷ BadCount ∷ UnsoundRow p ∷ BadPairColumns ∷ PairOutOfOrder p ∷ PairOutsideTable p ∷ BadAxis ∷ BadTest
    ∷ TooManyResults p ∷ UnknownKey ∷ BadPiece ∷ NotAParent p ∷ TooDeep ∷ KeyTaken p ∷ NoRoom ∷ DeletesRoot
    ∷ BadRename p ∷ BadMove ∷ []) n BadList

-- number and place of a refusal lead back to it
pub reason_of : (why : Refusal) → reason (number why) (place why) ≡ why
reason_of BadCount = refl
reason_of (UnsoundRow p) = refl
reason_of BadPairColumns = refl
reason_of (PairOutOfOrder p) = refl
reason_of (PairOutsideTable p) = refl
reason_of BadAxis = refl
reason_of BadTest = refl
reason_of (TooManyResults p) = refl
reason_of UnknownKey = refl
reason_of BadPiece = refl
reason_of (NotAParent p) = refl
reason_of TooDeep = refl
reason_of (KeyTaken p) = refl
reason_of NoRoom = refl
reason_of DeletesRoot = refl
reason_of (BadRename p) = refl
reason_of BadMove = refl
reason_of BadList = refl

-- an answer told with a number and a place is a refusal that has them
pub told_is : {A : Type 0} (r : Result A Refusal) (n p : ℕ)
    → (told r ≡ Err (n, p)) ↔ ((why : Refusal) × (r ≡ Err why) × (number why ≡ n) × (place why ≡ p))
told_is (Ok a) n p = (
  λ e. let z : ◌≡◌ {A = ℕ} 0 1 = cc in absurd (omega arith),
  λ (why, e, m, q). let z : ◌≡◌ {A = ℕ} 0 1 = cc in absurd (omega arith),
)
told_is (Err why) n p = (
  λ e. let z : ◌≡◌ {A = ℕ × ℕ} (number why, place why) (n, p) = cc in (why, refl, ap (λ x. x.0) z, ap (λ x. x.1) z),
  λ (other, e, m, q). let z : why ≡ other = cc in
      ap₂ (λ (a b : ℕ). Err (a, b)) (ap number z ∙ m) (ap place z ∙ q),
)

module _ {A : Type 0} (r : Result A Refusal) (n p : ℕ) (why : Refusal) {P : Type 0} where
  -- one with a place
  pub told_there : reason n p ≡ why → number why ≡ n → place why ≡ p → (r ≡ Err why) ↔ P → (told r ≡ Err (n, p)) ↔ P
  told_there z m q h = (
    λ e. let (other, d, x, y) = (told_is r n p).0 e in
        h.0 (d ∙ ap Err (sym (reason_of other) ∙ ap₂ reason x y ∙ z)),
    λ k. (told_is r n p).1 (why, h.1 k, m, q),
  )

  -- one whose place is 0
  pub told_plain : reason n p ≡ why → number why ≡ n → place why ≡ 0 → (r ≡ Err why) ↔ P
      → (told r ≡ Err (n, p)) ↔ (P × (p ≡ 0))
  told_plain z m q h = (
    λ e. let (other, d, x, y) = (told_is r n p).0 e in
        let w : other ≡ why = sym (reason_of other) ∙ ap₂ reason x y ∙ z in
        (h.0 (d ∙ ap Err w), sym y ∙ ap place w ∙ q),
    λ k. (told_is r n p).1 (why, h.1 k.0, m, q ∙ sym k.1),
  )
