-- What the levels alone decide in rows that make a tree: the sizes (`sizes_only`), and how many ancestors a row has
-- (`ancestors_count`), so that at most 64 rows are open at a time (`open_most`). `ancestor_step`: the ancestors of
-- a row are its parent and the parent's ancestors; `root_alone`: a root has none; `not_own`: no row is its own.
-- `has_parent`: every row above level 0 has a parent. Assumes nothing.
use mathlib.Core.Path.{◌≡◌, refl, sym, ap, ap₂, ◌∙◌}
use mathlib.Core.Logic.{◌⊎◌, inl, inr, ⊎_elim}
use mathlib.Core.Bool.{Bool, true, false, ◌||◌}
use mathlib.Core.List.{List, [], ◌∷◌}
use Prim.Native.Nat.{ℕ, zero, suc, ◌+◌, ◌-◌, ◌<◌, ◌≤◌}
use native.Mathlib.Nat.{le_refl, le_of_suc-le-suc, not-suc-le-zero, eq-or-lt_of_le}
use native.Mathlib.Numerals.{add-one}
use native.Mathlib.Omega.{arith}
use native.Mathlib.Decide.{ℕ_discrete, dec_lt}
use borrow.Author.Tests.{eqb-true, eq-eqb, ne_eqb}
use lib.Dec.{eqb, leb}
use lib.ListN.{length, length-append}
use Rattle.tree.specs.Search.{gather, only}
use Rattle.tree.specs.Table.{at}
use Rattle.tree.specs.Sound.{size_of}
use Rattle.tree.specs.Rules.{Shape}
use Rattle.tree.specs.Tree.{parent, ancestor}
use Rattle.tree.proofs.SearchLaws.{least_ext, gather_zero, gather_length, gather_no, gather_yes, gather_ext}
use Rattle.tree.proofs.SearchLaws.{gather_skip}
use Rattle.tree.proofs.TreeLaws.{Under, rest_at, size_least, from_parent, under_parent, ancestor_under}
use Rattle.tree.proofs.TreeLaws.{parent_below, parent_less, under_trans}
use Rattle.tree.proofs.SoundLaws.{shape_steps, either, either_left, either_right}
use Rattle.tree.proofs.AxisLaws.{same_test, false_of}

-- ── the sizes ──
-- columns that agree on the rows in use give the same sizes
size_ext : (a b : List ℕ) (n c : ℕ) → n ≤ length a → n ≤ length b → c < n → ((i : ℕ) → i < n → at a i ≡ at b i)
    → size_of a n c ≡ size_of b n c
size_ext a b n c k l m h =
    size_least a n c k m
    ∙ least_ext _ _ (n - (c + 1)) (λ j q. ap₂ leb
    (rest_at a n c k m j q ∙ h (c + 1 + j) (omega arith) ∙ sym (rest_at b n c l m j q)) (h c m))
    ∙ sym (size_least b n c l m)

-- rows that make a tree have the sizes that their levels give, and no others
pub sizes_only : {size size' level level' : List ℕ} {n : ℕ} → Shape size level n → Shape size' level' n
    → ((i : ℕ) → i < n → at level i ≡ at level' i) → (i : ℕ) → i < n → at size i ≡ at size' i
sizes_only {n = n} s s' h i l =
    s.sizes i l ∙ size_ext _ _ n i s.in_level s'.in_level l h ∙ sym (s'.sizes i l)

-- ── the ancestors ──
module _ {size level : List ℕ} {n : ℕ} (s : Shape size level n) where
  -- what a row is under is its parent, or what its parent is under
  under_step : (c w p : ℕ) → w < n → parent level w ≡ suc p → Under level c w → (c ≡ p) ⊎ Under level c p
  under_step c w p l e u = elim (ℕ_discrete c p) [
    | yes q ↦ inl q
    | no q ↦ elim (dec_lt c p) [
      | yes a ↦ let b = parent_below level w p e in
          inr (record { after = a; deeper = λ k x y. u.deeper k x (omega arith) })
      | no a ↦ absurd (omega (
        arith,
        from_parent level n (shape_steps s) w l c (omega arith) u.after,
        u.deeper w u.after (le_refl w),
      ))
    ]
  ]

  -- the ancestors of a row are its parent and the parent's ancestors
  pub ancestor_step : (c w p : ℕ) → w < n → parent level w ≡ suc p
      → ancestor level c w ≡ (eqb c p || ancestor level c p)
  ancestor_step c w p l e =
      let b : p < w = parent_below level w p e in
      let up = under_parent level n (shape_steps s) w p l e in
      same_test _ _
      (λ h. ⊎_elim (λ q. either_left _ (eq-eqb c p q))
      (λ u. either_right (eqb c p) ((ancestor_under level n (shape_steps s) c p (omega arith)).1 u))
      (under_step c w p l e ((ancestor_under level n (shape_steps s) c w l).0 h)))
      (λ h. (ancestor_under level n (shape_steps s) c w l).1 (⊎_elim
      (λ q. let z : c ≡ p = eqb-true c p q in rw z up)
      (λ q. under_trans level n (shape_steps s) c p w
      ((ancestor_under level n (shape_steps s) c p (omega arith)).0 q) up)
      (either (eqb c p) _ h)))

  -- a row above level 0 has a parent
  pub has_parent : (w : ℕ) → w < n → 1 ≤ at level w → (p : ℕ) × (parent level w ≡ suc p)
  has_parent w l h = go (parent level w) refl
    where
      root : at level 0 ≡ 0
      root = (s.levels 0 (omega arith)).root refl

      go : (q : ℕ) → parent level w ≡ q → (p : ℕ) × (parent level w ≡ suc p)
      go (suc p) e = (p, e)
      go zero e = elim (ℕ_discrete w 0) [
        | yes z ↦ absurd (omega (arith, root, ap (at level) z))
        | no z ↦ absurd (omega (arith, root, from_parent level n (shape_steps s) w l 0 (omega arith) (omega arith)))
      ]

-- one number more passes
gather_one_more : (f g : ℕ → Bool) (p : ℕ) → f p ≡ false → g p ≡ true → ((c : ℕ) → (c ≡ p → ⊥) → g c ≡ f c)
    → (n : ℕ) → p < n → length (gather g n) ≡ suc (length (gather f n))
gather_one_more f g p a b h zero l = absurd (not-suc-le-zero l)
gather_one_more f g p a b h (suc n) l =
    ⊎_elim here (λ m. there m (gather_one_more f g p a b h n m)) (eq-or-lt_of_le (le_of_suc-le-suc l))
  where
    here : p ≡ n → length (gather g (suc n)) ≡ suc (length (gather f (suc n)))
    here e =
        ap length (gather_yes g n (ap g (sym e) ∙ b)) ∙ length-append (gather g n) (n ∷ [])
        ∙ add-one (length (gather g n))
        ∙ ap (λ (l : List ℕ). suc (length l))
        (gather_ext g f n (λ c m. h c (λ q. omega arith)) ∙ sym (gather_no f n (ap f (sym e) ∙ a)))

    there : p < n → length (gather g n) ≡ suc (length (gather f n))
        → length (gather g (suc n)) ≡ suc (length (gather f (suc n)))
    there m ih =
        let q : g n ≡ f n = h n (λ e. omega arith) in
        let u = gather_length g n in
        let v = gather_length f n in
        let z = ap (λ (b : Bool). length (only b n)) q in
        omega arith

module _ {size level : List ℕ} {n : ℕ} (s : Shape size level n) where
  -- no row is its own ancestor
  pub not_own : (p : ℕ) → p < n → ancestor level p p ≡ false
  not_own p l =
      false_of (ancestor level p p) (λ e. omega (arith, ((ancestor_under level n (shape_steps s) p p l).0 e).after))

  -- a root has no ancestor
  pub root_alone : (w : ℕ) → w < n → at level w ≡ 0 → (c : ℕ) → ancestor level c w ≡ false
  root_alone w l z c =
      false_of (ancestor level c w) (λ e.
      let u = (ancestor_under level n (shape_steps s) c w l).0 e in omega (arith, u.deeper w u.after (le_refl w)))

  -- a row has as many ancestors as its level says
  pub ancestors_count : (w : ℕ) → w < n → length (gather (λ c. ancestor level c w) n) ≡ at level w
  ancestors_count w l = go (at level w) w l refl
    where
      go : (k w : ℕ) → w < n → at level w ≡ k → length (gather (λ c. ancestor level c w) n) ≡ k
      go zero w l e =
          ap length (gather_skip (λ c. ancestor level c w) 0 n (omega arith) (λ c x y. root_alone w l e c)
          ∙ gather_zero (λ c. ancestor level c w))
      go (suc k) w l e =
          let p = has_parent s w l (omega arith) in
          let b : p.0 < w = parent_below level w p.0 p.1 in
          gather_one_more (λ c. ancestor level c p.0) (λ c. ancestor level c w) p.0 (not_own p.0 (omega arith))
          (ancestor_step s p.0 w p.0 l p.1 ∙ either_left _ (eq-eqb p.0 p.0 refl))
          (λ c ne. ancestor_step s c w p.0 l p.1
          ∙ ap (λ (b : Bool). b || ancestor level c p.0) (ne_eqb c p.0 ne))
          n (omega arith)
          ∙ ap suc (go k p.0 (omega arith) (omega (arith, parent_less level w p.0 p.1)))

  -- 01: a reader that follows the levels has at most 64 rows open: a row and its ancestors
  pub open_most : (w : ℕ) → w < n → length (gather (λ c. ancestor level c w) n) + 1 ≤ 64
  open_most w l = omega (arith, ancestors_count w l, (s.levels w l).low)
