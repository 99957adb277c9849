-- What a test, a check and a chain of checks say, put together part by part. Tests of numbers: `lt_iff`, `le_iff`,
-- `eq_iff`, `zero_iff`, `above_iff`; of tests: `fails_iff`, `passes_iff`, `not_iff`, `not_passes_iff`,
-- `not_fails_iff`, `or_iff`, `and_iff`, `nand_iff`, `nor_iff`; searches: `some_iff`, `none_iff`, `least_iff`. One
-- check: `given_when`, `given_unless`; one that searches its place: `least_when`, `least_unless`. Which numbers a
-- check can give, `Numbers`: `given_numbers`, `least_numbers`, `next_numbers`, `no_refusal`. A chain: `stop` where
-- the number is the first check's, `skip` where it is a later one's, `same_refusal`. Conditions as one list:
-- `flat_three` to `flat_six`. Assumes nothing.
use mathlib.Core.Path.{◌≡◌, refl, sym, ap, ◌∙◌}
use mathlib.Core.Logic.{◌⊎◌, inl, inr, ⊎_elim, ◌↔◌}
use mathlib.Core.Bool.{Bool, true, false, not, ◌&&◌, ◌||◌, true≢false}
use mathlib.Core.List.{List, [], ◌∷◌, ◌++◌}
use Prim.Native.Nat.{ℕ, ◌<◌, ◌≤◌}
use native.Mathlib.Omega.{arith}
use borrow.Author.Tests.{eqb-true, eq-eqb, ltb-true, lt-ltb, leb-true, leb-false, le-leb, lt-leb, not-true, not-false}
use lib.Dec.{eqb, ltb, leb}
use Rattle.tree.specs.Search.{least}
use Rattle.tree.specs.RefusalRules.{Least, Some, None}
use Rattle.tree.specs.Refusal.{given, given_at, next, Checked, passed}
use Rattle.tree.proofs.SearchLaws.{least_at, least_below, least_passes, least_hit_le}
use Rattle.tree.proofs.SoundLaws.{both, both_of, either, either_left, either_right, flip}
use Rattle.tree.proofs.SoundLaws.{next_first, given_passed, given_not}
use Rattle.tree.proofs.AcceptLaws.{neither, neither_of, none_below}
use Rattle.tree.proofs.AxisLaws.{false_of}
use Rattle.tree.proofs.FindLaws.{given_refused}
use Rattle.std.specs.Prelude.{Err}
use Rattle.tree.specs.declared.Refusal.{Refusal}
use Rattle.tree.specs.Number.{number}

-- ── tests of numbers ──
pub lt_iff : (a b : ℕ) → (ltb a b ≡ true) ↔ (a < b)
lt_iff a b = (ltb-true a b, lt-ltb a b)

pub le_iff : (a b : ℕ) → (leb a b ≡ true) ↔ (a ≤ b)
le_iff a b = (leb-true a b, le-leb a b)

pub eq_iff : (a b : ℕ) → (eqb a b ≡ true) ↔ (a ≡ b)
eq_iff a b = (eqb-true a b, eq-eqb a b)

-- a number is not from 1 on; it is above the most
pub zero_iff : (n : ℕ) → (leb 1 n ≡ false) ↔ (n ≡ 0)
zero_iff n = (
  λ e. let l : n < 1 = leb-false 1 n e in omega arith,
  λ e. lt-leb 1 n (let l : n < 1 = omega arith in l),
)

pub above_iff : (n most : ℕ) → (leb n most ≡ false) ↔ (most < n)
above_iff n most = (leb-false n most, lt-leb n most)

-- ── tests that fail, the opposite test, and two tests in one ──
pub fails_iff : {b : Bool} {P : Type 0} → (b ≡ true) ↔ P → (b ≡ false) ↔ (P → ⊥)
fails_iff {b} h = (λ e x. true≢false (sym (h.1 x) ∙ e), λ n. false_of b (λ e. n (h.0 e)))

pub passes_iff : {b : Bool} {P : Type 0} → (b ≡ false) ↔ P → (b ≡ true) ↔ (P → ⊥)
passes_iff {b} {P} h = (λ e x. true≢false (sym e ∙ h.1 x), go b h)
  where
    go : (b : Bool) → (b ≡ false) ↔ P → (P → ⊥) → b ≡ true
    go true h n = refl
    go false h n = absurd (n (h.0 refl))

pub not_iff : {b : Bool} {P : Type 0} → (b ≡ true) ↔ P → (not b ≡ true) ↔ (P → ⊥)
not_iff {b} h = (λ e. (fails_iff h).0 (not-true b e), λ n. flip ((fails_iff h).1 n))

pub not_passes_iff : {b : Bool} {P : Type 0} → (b ≡ false) ↔ P → (not b ≡ true) ↔ P
not_passes_iff {b} h = (λ e. h.0 (not-true b e), λ x. flip (h.1 x))

pub not_fails_iff : {b : Bool} {P : Type 0} → (b ≡ true) ↔ P → (not b ≡ false) ↔ P
not_fails_iff {b} h = (λ e. h.0 (not-false b e), λ x. ap not (h.1 x))

pub or_iff : {a b : Bool} {P Q : Type 0} → (a ≡ true) ↔ P → (b ≡ true) ↔ Q → ((a || b) ≡ true) ↔ (P ⊎ Q)
or_iff {a} {b} h k = (
  λ e. ⊎_elim (λ x. inl (h.0 x)) (λ x. inr (k.0 x)) (either a b e),
  ⊎_elim (λ x. either_left b (h.1 x)) (λ x. either_right a (k.1 x)),
)

pub and_iff : {a b : Bool} {P Q : Type 0} → (a ≡ true) ↔ P → (b ≡ true) ↔ Q → ((a && b) ≡ true) ↔ (P × Q)
and_iff {a} {b} h k = (
  λ e. let c = both a b e in (h.0 c.0, k.0 c.1),
  λ c. both_of (h.1 c.0) (k.1 c.1),
)

pub nand_iff : {a b : Bool} {P Q : Type 0} → (a ≡ false) ↔ P → (b ≡ false) ↔ Q → ((a && b) ≡ false) ↔ (P ⊎ Q)
nand_iff {a} {b} {P} {Q} h k = go a h
  where
    go : (a : Bool) → (a ≡ false) ↔ P → ((a && b) ≡ false) ↔ (P ⊎ Q)
    go true h = (λ e. inr (k.0 e), ⊎_elim (λ x. absurd (true≢false (h.1 x))) k.1)
    go false h = (λ e. inl (h.0 refl), λ x. refl)

pub nor_iff : {a b : Bool} {P Q : Type 0} → (a ≡ false) ↔ P → (b ≡ false) ↔ Q → ((a || b) ≡ false) ↔ (P × Q)
nor_iff {a} {b} h k = (
  λ e. let c = neither a b e in (h.0 c.0, k.0 c.1),
  λ c. neither_of (h.1 c.0) (k.1 c.1),
)

-- ── searches, for a test that says P ──
module _ (f : ℕ → Bool) (n : ℕ) {P : ℕ → Type 0} (h : (i : ℕ) → (f i ≡ true) ↔ P i) where
  -- it finds one
  pub some_iff : (ltb (least f n) n ≡ true) ↔ Some P n
  some_iff = (
    λ e. let l : least f n < n = ltb-true _ _ e in (least f n, l, (h _).0 (least_passes f n l)),
    λ (i, l, x). let m : least f n ≤ i = least_hit_le f n i ((h i).1 x) in
        lt-ltb (least f n) n (omega arith),
  )

  -- it finds none
  pub none_iff : (ltb (least f n) n ≡ false) ↔ None P n
  none_iff = (
    λ e i l. (fails_iff (h i)).0 ((none_below f n).0 e i l),
    λ k. (none_below f n).1 (λ i l. (fails_iff (h i)).1 (k i l)),
  )

  -- it finds p
  pub least_iff : (p : ℕ) → ((ltb (least f n) n ≡ true) × (least f n ≡ p)) ↔ Least P n p
  least_iff p = (
    λ (e, z). let l : least f n < n = ltb-true _ _ e in
        let m : P (least f n) = (h _).0 (least_passes f n l) in
        record {
          inside = omega arith;
          holds = rw z at m;
          before = λ i j. (fails_iff (h i)).0 (least_below f n i (omega arith));
        },
    λ k. let z : least f n ≡ p =
        least_at f n p k.inside (λ i l. (fails_iff (h i)).1 (k.before i l)) ((h p).1 k.holds) in
        let l : p < n = k.inside in
        (lt-ltb (least f n) n (omega arith), z),
  )

-- ── one check ──
-- it refuses for its reason exactly if its test passes
pub given_when : {b : Bool} {why : Refusal} {P : Type 0} → (b ≡ true) ↔ P → (given b why ≡ Err why) ↔ P
given_when {b} {why} h = (
  λ e. h.0 ((given_refused b why why).0 e).0,
  λ c. (given_refused b why why).1 (h.1 c, refl),
)

-- so with a place, which tells its refusals apart
pub given_there : {b : Bool} (why : ℕ → Refusal) (q p : ℕ) {P : Type 0} → ((i j : ℕ) → why i ≡ why j → i ≡ j)
    → (b ≡ true) ↔ P → (given b (why q) ≡ Err (why p)) ↔ (P × (p ≡ q))
given_there {b} why q p apart h = (
  λ e. let c = (given_refused b (why q) (why p)).0 e in (h.0 c.0, sym (apart q p c.1)),
  λ c. (given_refused b (why q) (why p)).1 (h.1 c.0, ap why (sym c.1)),
)

-- it passes exactly if the test fails
pub given_unless : {b : Bool} (why : Refusal) {P : Type 0} → (b ≡ false) ↔ P → (given b why ≡ passed) ↔ P
given_unless {b} why h = (λ e. h.0 (given_passed b why e), λ x. given_not why (h.1 x))

module _ (f : ℕ → Bool) (n : ℕ) (why : ℕ → Refusal) {P : ℕ → Type 0} (h : (i : ℕ) → (f i ≡ true) ↔ P i) where
  -- it refuses with the least place that passes
  pub least_when : ((i j : ℕ) → why i ≡ why j → i ≡ j) → (p : ℕ) → (given_at f n why ≡ Err (why p)) ↔ Least P n p
  unfolding given_at
  least_when apart p = (
    λ e. let c = (given_refused _ _ (why p)).0 e in (least_iff f n h p).0 (c.0, apart _ p c.1),
    λ k. let c = (least_iff f n h p).1 k in (given_refused _ _ (why p)).1 (c.0, ap why c.1),
  )

  -- and passes exactly if no place does
  pub least_unless : (given_at f n why ≡ passed) ↔ None P n
  unfolding given_at
  least_unless = given_unless _ (none_iff f n h)

-- ── the numbers that a check can give ──
-- x is one of these
abbrev pub has : ℕ → List ℕ → Bool
has x [] = false
has x (y ∷ ys) = eqb x y || has x ys

-- c refuses with one of these only
pub record Numbers (ns : List ℕ) (c : Checked) : Type 0 where
  pub only : (why : Refusal) → c ≡ Err why → has (number why) ns ≡ true

has_append : (x : ℕ) (xs ys : List ℕ) → has x (xs ++ ys) ≡ (has x xs || has x ys)
has_append x [] ys = refl
has_append x (y ∷ xs) ys = go (eqb x y) (has_append x xs ys)
  where
    go : (b : Bool) → has x (xs ++ ys) ≡ (has x xs || has x ys)
        → (b || has x (xs ++ ys)) ≡ ((b || has x xs) || has x ys)
    go true ih = refl
    go false ih = ih

pub given_numbers : (b : Bool) (why : Refusal) → Numbers (number why ∷ []) (given b why)
given_numbers b why = record {
  only = λ other e. either_left false (eq-eqb _ _ (ap number (sym ((given_refused b why other).0 e).1)));
}

pub least_numbers : (f : ℕ → Bool) (n : ℕ) (why : ℕ → Refusal)
    → Numbers (number (why (least f n)) ∷ []) (given_at f n why)
unfolding given_at
least_numbers f n why = given_numbers _ _

pub next_numbers : {xs ys : List ℕ} {c d : Checked} → Numbers xs c → Numbers ys d → Numbers (xs ++ ys) (next c d)
next_numbers {xs} {ys} {c} {d} h k = record {
  only = λ why e. let m : ℕ = number why in
      has_append m xs ys
      ∙ ⊎_elim (λ x. either_left (has m ys) (h.only why x)) (λ x. either_right (has m xs) (k.only why x.1))
      ((next_first c d why).0 e);
}

-- any other number it never gives
pub no_refusal : {xs : List ℕ} {c : Checked} {why : Refusal} → Numbers xs c → has (number why) xs ≡ false → c ≡ Err why
    → ⊥
no_refusal {xs} {c} {why} h o e = true≢false (sym (h.only why e) ∙ o)

-- ── a chain of checks ──
module _ {c d : Checked} {why : Refusal} {xs : List ℕ} where
  -- the number is not one of the later checks'
  pub stop : {A : Type 0} → Numbers xs d → has (number why) xs ≡ false → (c ≡ Err why) ↔ A → (next c d ≡ Err why) ↔ A
  stop h o k = (
    λ e. ⊎_elim (λ x. k.0 x) (λ x. absurd (no_refusal h o x.1)) ((next_first c d why).0 e),
    λ a. (next_first c d why).1 (inl (k.1 a)),
  )

  -- the number is not one of the first check's, which passes exactly if A
  pub skip : {A B : Type 0} → Numbers xs c → has (number why) xs ≡ false → (c ≡ passed) ↔ A → (d ≡ Err why) ↔ B
      → (next c d ≡ Err why) ↔ (A × B)
  skip h o j k = (
    λ e. ⊎_elim (λ x. absurd (no_refusal h o x)) (λ x. (j.0 x.0, k.0 x.1)) ((next_first c d why).0 e),
    λ a. (next_first c d why).1 (inr (j.1 a.0, k.1 a.1)),
  )

-- a check that is the same refuses the same
pub same_refusal : {c d : Checked} {why : Refusal} {A : Type 0} → c ≡ d → (d ≡ Err why) ↔ A → (c ≡ Err why) ↔ A
same_refusal z h = (λ e. h.0 (sym z ∙ e), λ a. z ∙ h.1 a)

-- ── conditions one after the other, as one list of them ──
module _ {X A B C : Type 0} where
  pub flat_three : X ↔ (A × (B × C)) → X ↔ (A × B × C)
  flat_three h = (λ x. let y = h.0 x in (y.0, y.1.0, y.1.1), λ y. h.1 (y.0, (y.1, y.2)))

  pub flat_four : {D : Type 0} → X ↔ (A × (B × (C × D))) → X ↔ (A × B × C × D)
  flat_four h = (
    λ x. let y = h.0 x in (y.0, y.1.0, y.1.1.0, y.1.1.1),
    λ y. h.1 (y.0, (y.1, (y.2, y.3))),
  )

  pub flat_five : {D E : Type 0} → X ↔ (A × (B × (C × (D × E)))) → X ↔ (A × B × C × D × E)
  flat_five h = (
    λ x. let y = h.0 x in (y.0, y.1.0, y.1.1.0, y.1.1.1.0, y.1.1.1.1),
    λ y. h.1 (y.0, (y.1, (y.2, (y.3, y.4)))),
  )

  pub flat_six : {D E F : Type 0} → X ↔ (A × (B × (C × (D × (E × F))))) → X ↔ (A × B × C × D × E × F)
  flat_six h = (
    λ x. let y = h.0 x in (y.0, y.1.0, y.1.1.0, y.1.1.1.0, y.1.1.1.1.0, y.1.1.1.1.1),
    λ y. h.1 (y.0, (y.1, (y.2, (y.3, (y.4, y.5))))),
  )
