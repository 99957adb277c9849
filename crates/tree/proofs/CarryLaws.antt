-- Laws of a carried list, whatever rows go and wherever the others stand (`carried_by`): its first pair goes,
-- `carried_gone`, or stays, `carried_stays`; it is no longer than it was, `carried_most`; of two lists in a row,
-- `carried_append`; which pairs it has, `carried_in`; it depends on the rows of the list alone, `carried_same`; carried
-- twice is carried once, `carried_twice`. Assumes nothing.
use mathlib.Core.Path.{◌≡◌, refl, sym, ap, ap₂, ◌∙◌}
use mathlib.Core.Logic.{inl, inr, ◌↔◌}
use mathlib.Core.Bool.{Bool, true, false, cond, ◌||◌, true≢false}
use mathlib.Core.List.{List, [], ◌∷◌, ◌++◌}
use Prim.Native.Nat.{ℕ, suc, ◌≤◌}
use native.Mathlib.Omega.{arith}
use lib.ListN.{length}
use Rattle.tree.specs.Pairs.{Pair, pair}
use Rattle.tree.specs.Carry.{carried_by}
use Rattle.tree.proofs.StepLaws.{In}

module _ (goes : ℕ → Bool) (to : ℕ → ℕ) where
  -- a pair whose row goes is dropped
  pub carried_gone : (p : Pair) (ps : List Pair) → goes p.row ≡ true
      → carried_by goes to (p ∷ ps) ≡ carried_by goes to ps
  unfolding carried_by
  carried_gone p ps e = rw e

  -- any other has its row's new number
  pub carried_stays : (p : Pair) (ps : List Pair) → goes p.row ≡ false
      → carried_by goes to (p ∷ ps) ≡ pair p.role (to p.row) ∷ carried_by goes to ps
  unfolding carried_by
  carried_stays p ps e = rw e

  -- the list is no longer than it was
  pub carried_most : (ps : List Pair) → length (carried_by goes to ps) ≤ length ps
  unfolding carried_by
  carried_most [] = omega arith
  carried_most (p ∷ ps) = go (goes p.row) (carried_most ps)
    where
      go : (b : Bool) → length (carried_by goes to ps) ≤ length ps
          → length (cond b (carried_by goes to ps) (pair p.role (to p.row) ∷ carried_by goes to ps))
          ≤ suc (length ps)
      go true h = omega arith
      go false h = omega arith

  -- two lists in a row
  pub carried_append : (ps qs : List Pair)
      → carried_by goes to (ps ++ qs) ≡ carried_by goes to ps ++ carried_by goes to qs
  unfolding carried_by
  carried_append [] qs = refl
  carried_append (p ∷ ps) qs = go (goes p.row) (carried_append ps qs)
    where
      q : Pair
      q = pair p.role (to p.row)

      go : (b : Bool) → carried_by goes to (ps ++ qs) ≡ carried_by goes to ps ++ carried_by goes to qs
          → cond b (carried_by goes to (ps ++ qs)) (q ∷ carried_by goes to (ps ++ qs))
          ≡ cond b (carried_by goes to ps) (q ∷ carried_by goes to ps) ++ carried_by goes to qs
      go true h = h
      go false h = ap (λ (l : List Pair). q ∷ l) h

  -- a pair is in the new list exactly if its role had a pair on a row that stays and has its number now
  pub carried_in : (q : Pair) (ps : List Pair) → In q (carried_by goes to ps)
      ↔ ((w : ℕ) × In (pair q.role w) ps × (goes w ≡ false) × (q.row ≡ to w))
  unfolding carried_by
  carried_in q ps = (there ps, λ h. back ps h.0 h.1 h.2 h.3)
    where
      there : (ps : List Pair) → In q (carried_by goes to ps)
          → (w : ℕ) × In (pair q.role w) ps × (goes w ≡ false) × (q.row ≡ to w)
      there [] i = absurd i
      there (p ∷ ps) i = go (goes p.row) refl i (there ps)
        where
          go : (b : Bool) → goes p.row ≡ b
              → In q (cond b (carried_by goes to ps) (pair p.role (to p.row) ∷ carried_by goes to ps))
              → (In q (carried_by goes to ps)
              → (w : ℕ) × In (pair q.role w) ps × (goes w ≡ false) × (q.row ≡ to w))
              → (w : ℕ) × In (pair q.role w) (p ∷ ps) × (goes w ≡ false) × (q.row ≡ to w)
          go true e i ih = let z = ih i in (z.0, inr z.1, z.2, z.3)
          go false e (inl i) ih = (
            p.row,
            inl (ap (λ (r : ℕ). pair r p.row) (ap (λ (x : Pair). x.role) i)),
            e,
            ap (λ (x : Pair). x.row) i,
          )
          go false e (inr i) ih = let z = ih i in (z.0, inr z.1, z.2, z.3)

      back : (ps : List Pair) (w : ℕ) → In (pair q.role w) ps → goes w ≡ false → q.row ≡ to w
          → In q (carried_by goes to ps)
      back [] w i e t = absurd i
      back (p ∷ ps) w i e t = go (goes p.row) refl i (λ j. back ps w j e t)
        where
          go : (b : Bool) → goes p.row ≡ b → In (pair q.role w) (p ∷ ps)
              → (In (pair q.role w) ps → In q (carried_by goes to ps))
              → In q (cond b (carried_by goes to ps) (pair p.role (to p.row) ∷ carried_by goes to ps))
          go true d (inl j) ih =
              absurd (true≢false (sym d ∙ ap goes (sym (ap (λ (x : Pair). x.row) j)) ∙ e))
          go true d (inr j) ih = ih j
          go false d (inl j) ih =
              inl (ap₂ pair (ap (λ (x : Pair). x.role) j) (t ∙ ap to (ap (λ (x : Pair). x.row) j)))
          go false d (inr j) ih = inr (ih j)

-- on the rows of the list the same rows go, and those that stay have the same number
abbrev pub SameOn : (ℕ → Bool) → (ℕ → ℕ) → (ℕ → Bool) → (ℕ → ℕ) → List Pair → Type 0
SameOn g f h k ps =
    (p : Pair) → In p ps → (g p.row ≡ h p.row) × (g p.row ≡ false → f p.row ≡ k p.row)

-- then the new list is the same
pub carried_same : (g : ℕ → Bool) (f : ℕ → ℕ) (h : ℕ → Bool) (k : ℕ → ℕ) (ps : List Pair) → SameOn g f h k ps
    → carried_by g f ps ≡ carried_by h k ps
unfolding carried_by
carried_same g f h k [] s = refl
carried_same g f h k (p ∷ ps) s =
    let (e, n) = s p (inl refl) in
    go (g p.row) (h p.row) e n (carried_same g f h k ps (λ q i. s q (inr i)))
  where
    go : (b c : Bool) → b ≡ c → (b ≡ false → f p.row ≡ k p.row) → carried_by g f ps ≡ carried_by h k ps
        → cond b (carried_by g f ps) (pair p.role (f p.row) ∷ carried_by g f ps)
        ≡ cond c (carried_by h k ps) (pair p.role (k p.row) ∷ carried_by h k ps)
    go true true e n ih = ih
    go true false e n ih = absurd (true≢false e)
    go false true e n ih = absurd (true≢false (sym e))
    go false false e n ih =
        ap₂ (λ (w : ℕ) (l : List Pair). pair p.role w ∷ l) (n refl) ih

-- carried twice: a row goes if it goes at first, or if its number then goes
pub carried_twice : (g : ℕ → Bool) (f : ℕ → ℕ) (h : ℕ → Bool) (k : ℕ → ℕ) (ps : List Pair)
    → carried_by h k (carried_by g f ps) ≡ carried_by (λ w. g w || h (f w)) (λ w. k (f w)) ps
unfolding carried_by
carried_twice g f h k [] = refl
carried_twice g f h k (p ∷ ps) = go (g p.row) (h (f p.row)) refl (carried_twice g f h k ps)
  where
    both : List Pair
    both = carried_by (λ w. g w || h (f w)) (λ w. k (f w)) ps

    q : Pair
    q = pair p.role (k (f p.row))

    go : (b c : Bool) → h (f p.row) ≡ c → carried_by h k (carried_by g f ps) ≡ both
        → carried_by h k (cond b (carried_by g f ps) (pair p.role (f p.row) ∷ carried_by g f ps))
        ≡ cond (b || c) both (q ∷ both)
    go true c e ih = ih
    go false true e ih = carried_gone h k (pair p.role (f p.row)) (carried_by g f ps) e ∙ ih
    go false false e ih =
        carried_stays h k (pair p.role (f p.row)) (carried_by g f ps) e ∙ ap (λ (l : List Pair). q ∷ l) ih
