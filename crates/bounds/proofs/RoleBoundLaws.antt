-- A role reaches each row at most once: `roles_most`. There are at most as many roles as pairs: `roles_few`. The loop
-- that counts them by the places where the role changes: `roles_none`, `roles_start`, `roles_more`, `roles_fit`,
-- `roles_done`. Assumes nothing.
use mathlib.Core.Path.{◌≡◌, refl, sym, ap, ◌∙◌}
use mathlib.Core.Bool.{Bool, true, false, cond}
use mathlib.Core.List.{List, [], ◌∷◌}
use Prim.Native.Nat.{ℕ, suc, ◌+◌, ◌-◌, ◌*◌, ◌^◌, ◌<◌, ◌≤◌}
use native.Mathlib.Nat.{le_refl, le_trans, suc-mul}
use native.Mathlib.Omega.{arith}
use Rattle.std.proofs.Common.{Fits, w64}
use lib.Dec.{eqb}
use lib.ListN.{length, drop, length-append, drop_of_length-le}
use lib.Seq.{drop-cons}
use Rattle.tree.specs.Table.{Table, at}
use Rattle.tree.specs.Pairs.{Pair, pairs_of, with_role, distinct}
use Rattle.tree.specs.declared.Ask.{Ask}
use Rattle.tree.specs.Step.{listed, reached, lines_of, step_list}
use Rattle.bounds.specs.Bounds.{roles_in}
use Rattle.tree.proofs.SearchLaws.{gather_most}
use Rattle.runs.proofs.StepRunLaws.{length_role}

-- ── the lines of some roles ──
lines_most : (t : Table) (a : Ask) (ps : List Pair) (rs : List ℕ) → length (lines_of t a ps rs) ≤ length rs * t.count
unfolding lines_of reached
lines_most t a ps [] = omega arith
lines_most t a ps (r ∷ rs) =
    let rows = reached t a ps r in
    omega (
      arith,
      length-append (with_role r rows) (lines_of t a ps rs),
      length_role r rows,
      gather_most (listed t a ps r) t.count,
      lines_most t a ps rs,
      suc-mul (length rs) t.count,
    )

-- the roles, each once, are as many as the places where the role changes, and one more
distinct_count : (rs ws : List ℕ) → length rs ≡ length ws → length (distinct (pairs_of rs ws)) ≡ roles_in rs
unfolding distinct pairs_of roles_in
distinct_count [] ws e = refl
distinct_count (r ∷ rs) [] e = absurd (let z : suc (length rs) ≡ 0 = e in omega arith)
distinct_count (r ∷ []) (w ∷ ws) e = refl
distinct_count (r ∷ s ∷ rs) (w ∷ []) e = absurd (let z : suc (suc (length rs)) ≡ 1 = e in omega arith)
distinct_count (r ∷ s ∷ rs) (w ∷ v ∷ ws) e = go (eqb r s) (distinct_count (s ∷ rs) (v ∷ ws) (omega arith))
  where
    rest : List ℕ
    rest = distinct (pairs_of (s ∷ rs) (v ∷ ws))

    go : (b : Bool) → length rest ≡ roles_in (s ∷ rs) → length (cond b rest (r ∷ rest)) ≡ cond b 0 1 + roles_in (s ∷ rs)
    go true h = omega arith
    go false h = omega arith

pub roles_most : (t : Table) (a : Ask) (role row : List ℕ) → length role ≡ length row
    → length (step_list t a (pairs_of role row)) ≤ roles_in role * t.count
unfolding step_list
roles_most t a role row e =
    le_trans (lines_most t a (pairs_of role row) (distinct (pairs_of role row)))
    (rw (distinct_count role row e) (le_refl (roles_in role * t.count)))

-- ── counting the roles ──
pub roles_few : (rs : List ℕ) → roles_in rs ≤ length rs
unfolding roles_in
roles_few [] = le_refl 0
roles_few (r ∷ []) = le_refl 1
roles_few (r ∷ s ∷ rs) = go (eqb r s) (roles_few (s ∷ rs))
  where
    go : (b : Bool) → roles_in (s ∷ rs) ≤ suc (length rs) → cond b 0 1 + roles_in (s ∷ rs) ≤ suc (suc (length rs))
    go true h = omega arith
    go false h = omega arith

-- the roles of the first i places are counted, of which there is one or more
pub record Changed (role : List ℕ) (found i : ℕ) : Type 0 where
  pub some : 1 ≤ i
  pub within : i ≤ length role
  sum : found + roles_in (drop (i - 1) role) ≡ roles_in role + 1

pub roles_none : (role : List ℕ) → length role ≡ 0 → 0 ≡ roles_in role
unfolding roles_in
roles_none [] e = refl
roles_none (r ∷ rs) e = absurd (omega arith)

module _ {role : List ℕ} where
  pub roles_start : (length role ≡ 0 → ⊥) → Changed role 1 1
  roles_start h = record { some = le_refl 1; within = omega arith; sum = omega arith }

  module _ {found i : ℕ} (s : Changed role found i) where
    -- the place before i, then the rest
    from_last : drop (i - 1) role ≡ at role (i - 1) ∷ drop i role
    from_last =
        let q : suc (i - 1) ≡ i = omega (arith, s.some) in
        drop-cons role (i - 1) 0 (omega (arith, s.some, s.within))
        ∙ ap (λ (k : ℕ). at role (i - 1) ∷ drop k role) q

    module _ (l : i < length role) where
      next : roles_in (drop (i - 1) role) ≡ cond (eqb (at role (i - 1)) (at role i)) 0 1 + roles_in (drop i role)
      unfolding roles_in
      next =
          let here : drop i role ≡ at role i ∷ drop (suc i) role = drop-cons role i 0 l in
          ap roles_in (from_last ∙ ap (λ (rs : List ℕ). at role (i - 1) ∷ rs) here)
          ∙ ap (λ (rs : List ℕ). cond (eqb (at role (i - 1)) (at role i)) 0 1 + roles_in rs) (sym here)

      pub roles_more : {r : ℕ} → r ≡ cond (eqb (at role (i - 1)) (at role i)) 0 1 → Changed role (found + r) (i + 1)
      roles_more e =
          let q : roles_in (drop (i + 1 - 1) role) ≡ roles_in (drop i role) =
          ap (λ (k : ℕ). roles_in (drop k role)) (let z : i + 1 - 1 ≡ i = omega arith in z) in
          record { some = omega arith; within = omega arith; sum = omega (arith, s.sum, next) }

      -- the count fits
      pub roles_fit : {r : ℕ} → r ≡ cond (eqb (at role (i - 1)) (at role i)) 0 1 → length role < 2 ^ 63
          → Fits w64 (found + r)
      roles_fit e h = omega (arith, s.sum, next, roles_few role)

    pub roles_done : length role ≤ i → found ≡ roles_in role
    unfolding roles_in
    roles_done l =
        let last : roles_in (drop (i - 1) role) ≡ 1 =
        ap roles_in (from_last ∙ ap (λ (rs : List ℕ). at role (i - 1) ∷ rs) (drop_of_length-le role l)) in
        omega (arith, s.sum)
