-- What the kept count counts, in 01's words: the pairs that remain are given ones, each once (`kept_once`), and
-- a given one remains exactly if it is not redundant: `kept_below_lem` on axes 3 and 4, `kept_above` on 6 and 7,
-- `kept_one` and `kept_same` (one pair per role and tree) on 8 and 9, `kept_all` on the others. `kept_split`: roles are
-- counted apart. Assumes nothing.
use mathlib.Core.Path.{◌≡◌, refl, sym, ap, ap₂, subst, ◌∙◌}
use mathlib.Core.Logic.{◌⊎◌, inl, inr, ⊎_elim, ◌↔◌}
use mathlib.Core.Bool.{Bool, true, false, cond, ◌&&◌, ◌||◌, true≢false, or_assoc, or-false}
use mathlib.Core.List.{List, [], ◌∷◌, ◌++◌}
use Prim.Native.Nat.{ℕ, ◌+◌, ◌<◌, ◌≤◌}
use native.Mathlib.Nat.{le_antisymm}
use native.Mathlib.Omega.{arith}
use borrow.Author.Tests.{eqb-true, eq-eqb, ne_eqb, ltb-false, le-ltb}
use lib.Dec.{eqb, ltb}
use lib.ListN.{length, length-append}
use Rattle.tree.specs.Tree.{ancestor, root, same_tree}
use Rattle.tree.specs.Pairs.{Pair, pair, some}
use Rattle.tree.specs.Kept.{drops, remaining, kept_count}
use Rattle.tree.proofs.SoundLaws.{either}
use Rattle.tree.proofs.AcceptLaws.{neither, not_second}
use Rattle.tree.proofs.StepLaws.{In, some_in}
use Rattle.tree.proofs.LowestLaws.{lowest}
use Rattle.tree.proofs.SplitLaws.{RolesBelow}

-- each stands once
abbrev pub Once : List Pair → Type 0
Once [] = Unit {0}
Once (p ∷ ps) = (In p ps → ⊥) × Once ps

module _ (axis : ℕ) (level : List ℕ) where
  -- a pair is redundant among all
  abbrev dropped : List Pair → Pair → Bool
  dropped all p = some (drops axis level p.row) p.role all

  -- a later pair is the same
  abbrev again : Pair → List Pair → Bool
  again p ps = some (λ c. eqb c p.row) p.role ps

  -- then it is one of them
  again_in : (p : Pair) (ps : List Pair) → again p ps ≡ true → In p ps
  again_in p ps e =
      let h = (some_in (λ c. eqb c p.row) p.role ps).0 e in
      subst (λ (c : ℕ). In (pair p.role c) ps) (eqb-true _ _ h.2) h.1

  -- and the other way about
  in_again : (p : Pair) (ps : List Pair) → In p ps → again p ps ≡ true
  in_again p ps i = (some_in (λ c. eqb c p.row) p.role ps).1 (p.row, i, eq-eqb p.row p.row refl)

  -- those of ps remain that are not redundant
  pub remaining_in : (all ps : List Pair) (q : Pair)
      → In q (remaining axis level all ps) ↔ (In q ps × (dropped all q ≡ false))
  unfolding remaining
  remaining_in all ps q = (there ps, λ h. back ps h.0 h.1)
    where
      there : (ps : List Pair) → In q (remaining axis level all ps) → In q ps × (dropped all q ≡ false)
      there [] i = absurd i
      there (p ∷ ps) i = go (dropped all p || again p ps) refl i (there ps)
        where
          go : (b : Bool) → (dropped all p || again p ps) ≡ b
              → In q (cond b (remaining axis level all ps) (p ∷ remaining axis level all ps))
              → (In q (remaining axis level all ps) → In q ps × (dropped all q ≡ false))
              → In q (p ∷ ps) × (dropped all q ≡ false)
          go true e j ih = (inr (ih j).0, (ih j).1)
          go false e (inl j) ih = (inl j, ap (dropped all) j ∙ (neither (dropped all p) _ e).0)
          go false e (inr j) ih = (inr (ih j).0, (ih j).1)

      back : (ps : List Pair) → In q ps → dropped all q ≡ false → In q (remaining axis level all ps)
      back [] i d = absurd i
      back (p ∷ ps) i d = go (dropped all p || again p ps) refl i (λ j. back ps j d)
        where
          go : (b : Bool) → (dropped all p || again p ps) ≡ b → In q (p ∷ ps)
              → (In q ps → In q (remaining axis level all ps))
              → In q (cond b (remaining axis level all ps) (p ∷ remaining axis level all ps))
          go true e (inl j) ih = ⊎_elim
              (λ x. absurd (true≢false (sym x ∙ ap (dropped all) (sym j) ∙ d)))
              (λ x. ih (subst (λ (r : Pair). In r ps) (sym j) (again_in p ps x)))
              (either (dropped all p) (again p ps) e)
          go true e (inr j) ih = ih j
          go false e (inl j) ih = inl j
          go false e (inr j) ih = inr (ih j)

  -- each once
  remaining_once : (all ps : List Pair) → Once (remaining axis level all ps)
  unfolding remaining
  remaining_once all [] = tt
  remaining_once all (p ∷ ps) = go (dropped all p || again p ps) refl (remaining_once all ps)
    where
      go : (b : Bool) → (dropped all p || again p ps) ≡ b → Once (remaining axis level all ps)
          → Once (cond b (remaining axis level all ps) (p ∷ remaining axis level all ps))
      go true e ih = ih
      go false e ih = (
        λ i. true≢false (sym (in_again p ps ((remaining_in all ps p).0 i).0) ∙ (neither (dropped all p) _ e).1),
        ih,
      )

  -- the pairs that the kept count counts
  abbrev pub kept : List Pair → List Pair
  kept ps = remaining axis level ps ps

  -- each pair counts once
  pub kept_once : (ps : List Pair) → Once (kept ps)
  kept_once ps = remaining_once ps ps

  -- no pair of the same role stands on a row d with f d
  abbrev pub Free : List Pair → Pair → (ℕ → Bool) → Type 0
  Free ps p f = (d : ℕ) → In (pair p.role d) ps → f d ≡ false

  -- no pair of the role passes
  some_free : (f : ℕ → Bool) (ps : List Pair) (p : Pair) → (some f p.role ps ≡ false) ↔ Free ps p f
  some_free f ps p = (
    λ e d i. go (f d) refl e i,
    λ h. none (some f p.role ps) refl h,
  )
    where
      go : {d : ℕ} (b : Bool) → f d ≡ b → some f p.role ps ≡ false → In (pair p.role d) ps → f d ≡ false
      go {d} true q e i = absurd (true≢false (sym ((some_in f p.role ps).1 (d, i, q)) ∙ e))
      go false q e i = q

      none : (b : Bool) → some f p.role ps ≡ b → Free ps p f → some f p.role ps ≡ false
      none true e h =
          let w = (some_in f p.role ps).0 e in absurd (true≢false (sym w.2 ∙ h w.0 w.1))
      none false e h = e

  -- a pair remains exactly if f holds of no pair of its role, where f says what makes it redundant
  kept_by : (ps : List Pair) (p : Pair) (f : ℕ → Bool) → ((d : ℕ) → drops axis level p.row d ≡ f d)
      → In p (kept ps) ↔ (In p ps × Free ps p f)
  kept_by ps p f h = (
    λ i. let a = (remaining_in ps ps p).0 i in
        (a.0, λ d j. sym (h d) ∙ (some_free (drops axis level p.row) ps p).0 a.1 d j),
    λ a. (remaining_in ps ps p).1 (
      a.0,
      (some_free (drops axis level p.row) ps p).1 (λ d j. h d ∙ a.1 d j),
    ),
  )

  -- 01: on axes 3 and 4 a pair is redundant if the same role has a pair on an ancestor of its row
  pub kept_below_lem : (axis ≡ 3) ⊎ (axis ≡ 4) → (ps : List Pair) (p : Pair)
      → In p (kept ps) ↔ (In p ps × Free ps p (λ d. ancestor level d p.row))
  unfolding drops
  kept_below_lem g ps p = kept_by ps p _ (λ d. ⊎_elim (λ e. rw e) (λ e. rw e) g)

  -- 01: on 6 and 7, if the same role has a pair on a descendant of its row
  pub kept_above : (axis ≡ 6) ⊎ (axis ≡ 7) → (ps : List Pair) (p : Pair)
      → In p (kept ps) ↔ (In p ps × Free ps p (λ d. ancestor level p.row d))
  unfolding drops
  kept_above g ps p = kept_by ps p _ (λ d. ⊎_elim (λ e. rw e) (λ e. rw e) g)

  -- 01: on the other axes none is redundant
  pub kept_all : (axis ≡ 1) ⊎ (axis ≡ 2) ⊎ (axis ≡ 5) ⊎ (axis ≡ 10) ⊎ (axis ≡ 11) → (ps : List Pair) (p : Pair)
      → In p (kept ps) ↔ In p ps
  unfolding drops
  kept_all g ps p =
      let k : In p (kept ps) ↔ (In p ps × Free ps p (λ _. false)) = kept_by ps p _
      (λ d. ⊎_elim (λ e. rw e) (⊎_elim (λ e. rw e) (⊎_elim (λ e. rw e) (⊎_elim (λ e. rw e) (λ e. rw e)))) g) in
      (λ i. (k.0 i).0, λ i. k.1 (i, λ d j. refl))

  -- on 8 and 9 the pair on the least row of its role in its tree remains
  kept_least : (axis ≡ 8) ⊎ (axis ≡ 9) → (ps : List Pair) (p : Pair)
      → In p (kept ps) ↔ (In p ps × Free ps p (λ d. same_tree level p.row d && ltb d p.row))
  unfolding drops
  kept_least g ps p = kept_by ps p _ (λ d. ⊎_elim (λ e. rw e) (λ e. rw e) g)

  -- RULES 02, E2: on 8 and 9 one pair per role and tree remains: two of one role in one tree are the same
  pub kept_same : (axis ≡ 8) ⊎ (axis ≡ 9) → (ps : List Pair) (p q : Pair)
      → In p (kept ps) → In q (kept ps) → p.role ≡ q.role → root level p.row ≡ root level q.row → p ≡ q
  unfolding same_tree
  kept_same g ps p q i j e o =
      let a = (kept_least g ps p).0 i in
      let b = (kept_least g ps q).0 j in
      let u : p.row ≤ q.row = ltb-false _ _ (not_second (eq-eqb (root level p.row) (root level q.row) o)
      (a.1 q.row (subst (λ (r : ℕ). In (pair r q.row) ps) (sym e) b.0))) in
      let v : q.row ≤ p.row = ltb-false _ _ (not_second (eq-eqb (root level q.row) (root level p.row) (sym o))
      (b.1 p.row (subst (λ (r : ℕ). In (pair r p.row) ps) e a.0))) in
      ap₂ pair e (le_antisymm u v)

  -- and every role that has a pair in a tree keeps one in that tree
  pub kept_one : (axis ≡ 8) ⊎ (axis ≡ 9) → (ps : List Pair) (p : Pair) → In p ps
      → (c : ℕ) × (In (pair p.role c) (kept ps) × (root level c ≡ root level p.row))
  unfolding same_tree
  kept_one g ps p i =
      let m = lowest (same_tree level p.row) p.role ps p.row i
      (eq-eqb (root level p.row) (root level p.row) refl) in
      let o : root level p.row ≡ root level m.row = eqb-true _ _ m.passes in (
        m.row,
        (
          (kept_least g ps (pair p.role m.row)).1 (
            m.held,
            λ d j. go (eqb (root level m.row) (root level d)) refl
                (λ q. m.least d j (eq-eqb (root level p.row) (root level d) (o ∙ q))),
          ),
          sym o,
        ),
      )
    where
      go : {c d : ℕ} (b : Bool) → eqb (root level c) (root level d) ≡ b → (root level c ≡ root level d → c ≤ d)
          → (b && ltb d c) ≡ false
      go {c} {d} true q h = le-ltb d c (h (eqb-true _ _ q))
      go false q h = refl

-- ── roles are counted apart ──
-- some of two lists
some_append : (f : ℕ → Bool) (r : ℕ) (xs ys : List Pair) → some f r (xs ++ ys) ≡ (some f r xs || some f r ys)
unfolding some
some_append f r [] ys = refl
some_append f r (x ∷ xs) ys =
    ap (λ (b : Bool). (eqb x.role r && f x.row) || b) (some_append f r xs ys)
    ∙ sym (or_assoc (eqb x.role r && f x.row) (some f r xs) (some f r ys))

-- none of another role
some_none : (f : ℕ → Bool) (r : ℕ) (ys : List Pair) → ((q : Pair) → In q ys → q.role ≡ r → ⊥) → some f r ys ≡ false
unfolding some
some_none f r [] h = refl
some_none f r (y ∷ ys) h =
    ap₂ (λ (a b : Bool). (a && f y.row) || b) (ne_eqb y.role r (h y (inl refl)))
    (some_none f r ys (λ q i. h q (inr i)))

-- the pairs ps, among all or among those that have a role of theirs
remaining_among : (axis : ℕ) (level : List ℕ) (all few ps tail : List Pair)
    → ((f : ℕ → Bool) (p : Pair) → In p ps → some f p.role all ≡ some f p.role few)
    → ((p : Pair) → In p ps → (q : Pair) → In q tail → q.role ≡ p.role → ⊥)
    → remaining axis level all (ps ++ tail) ≡ remaining axis level few ps ++ remaining axis level all tail
unfolding remaining
remaining_among axis level all few [] tail h g = refl
remaining_among axis level all few (p ∷ ps) tail h g =
    let E : List Pair → Bool = λ l. some (λ c. eqb c p.row) p.role l in
    let e : E (ps ++ tail) ≡ E ps = some_append (λ c. eqb c p.row) p.role ps tail
    ∙ ap (λ (b : Bool). E ps || b) (some_none (λ c. eqb c p.row) p.role tail (g p (inl refl)))
    ∙ or-false (E ps) in
    ap₂ (λ (b : Bool) (l : List Pair). cond b l (p ∷ l))
    (ap₂ (λ (a b : Bool). a || b) (h (drops axis level p.row) p (inl refl)) e)
    (remaining_among axis level all few ps tail (λ f q i. h f q (inr i)) (λ q i. g q (inr i)))
    ∙ over (some (drops axis level p.row) p.role few || E ps)
  where
    over : (b : Bool)
        → cond b (remaining axis level few ps ++ remaining axis level all tail)
        (p ∷ (remaining axis level few ps ++ remaining axis level all tail))
        ≡ cond b (remaining axis level few ps) (p ∷ remaining axis level few ps) ++ remaining axis level all tail
    over true = refl
    over false = refl

-- the same, where all and few have the same pairs of these roles
remaining_ext : (axis : ℕ) (level : List ℕ) (all few ps : List Pair)
    → ((f : ℕ → Bool) (p : Pair) → In p ps → some f p.role all ≡ some f p.role few)
    → remaining axis level all ps ≡ remaining axis level few ps
unfolding remaining
remaining_ext axis level all few [] h = refl
remaining_ext axis level all few (p ∷ ps) h =
    ap₂ (λ (b : Bool) (l : List Pair). cond (b || some (λ c. eqb c p.row) p.role ps) l (p ∷ l))
    (h (drops axis level p.row) p (inl refl)) (remaining_ext axis level all few ps (λ f q i. h f q (inr i)))

-- lists without a common role are counted apart
pub kept_split : (axis : ℕ) (level : List ℕ) (xs ys : List Pair) → RolesBelow xs ys
    → kept_count axis level (xs ++ ys) ≡ kept_count axis level xs + kept_count axis level ys
unfolding kept_count
kept_split axis level xs ys h =
    ap length (
    remaining_among axis level (xs ++ ys) xs xs ys
    (λ f p i. some_append f p.role xs ys
    ∙ ap (λ (b : Bool). some f p.role xs || b)
    (some_none f p.role ys (λ q j e. let z : p.role < q.role = h p q i j in omega arith))
    ∙ or-false (some f p.role xs))
    (λ p i q j e. let z : p.role < q.role = h p q i j in omega arith)
    ∙ ap (λ (l : List Pair). remaining axis level xs xs ++ l) (
    remaining_ext axis level (xs ++ ys) ys ys
    (λ f q j. some_append f q.role xs ys ∙ ap (λ (b : Bool). b || some f q.role ys)
    (some_none f q.role xs (λ p i e. let z : p.role < q.role = h p q i j in omega arith)))
    )
    )
    ∙ length-append (remaining axis level xs xs) (remaining axis level ys ys)
