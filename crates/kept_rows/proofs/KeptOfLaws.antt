-- The kept count of the contexts of one role: `kept_role`, that the role's number plays no part; `kept_rows`, that it
-- counts rows, each once: those kept (`kept_row`); `row-..`, when a row is kept; `below-..`, counting on from row to
-- row; `kept_descend`, `kept_ascend`, `kept_aside`, `kept_plain`, that the axes of a group keep the same; `kept_none`,
-- that no contexts keep none; `kept_most`, that no more remain than there are. Assumes nothing.
use mathlib.Core.Path.{◌≡◌, refl, sym, ap, ap₂, subst, fun_ext, ◌∙◌}
use mathlib.Core.Logic.{◌⊎◌, inl, inr, ⊎_elim}
use mathlib.Core.Bool.{Bool, true, false, cond, not, ◌&&◌, ◌||◌, and-false, or-true}
use mathlib.Core.List.{List, [], ◌∷◌}
use Prim.Native.Nat.{ℕ, zero, suc, ◌+◌, ◌<◌, ◌≤◌}
use native.Mathlib.Nat.{le_refl, le_of_suc-le-suc, not-suc-le-zero, eq-or-lt_of_le}
use native.Mathlib.Numerals.{add-one}
use native.Mathlib.Omega.{arith}
use borrow.Author.Tests.{eqb-true, eq-eqb, ne_eqb}
use lib.Dec.{eqb}
use lib.ListN.{length, length-append}
use Rattle.tree.specs.Search.{gather, only}
use Rattle.tree.specs.Table.{at}
use Rattle.tree.specs.Pairs.{Pair, pair, with_role, some}
use Rattle.tree.specs.Kept.{drops, remaining, kept_count}
use Rattle.tree.proofs.SearchLaws.{gather_zero, gather_length, gather_yes, gather_skip, gather_ext, only_none, only_one}
use Rattle.kept_rows.specs.KeptOf.{kept_of}

-- ── rows by a test ──
-- one of the rows passes
abbrev any_row : (ℕ → Bool) → List ℕ → Bool
any_row f [] = false
any_row f (c ∷ cs) = f c || any_row f cs

-- w is one of the rows
abbrev held : List ℕ → ℕ → Bool
held cs w = any_row (λ c. eqb c w) cs

any_hit : (f : ℕ → Bool) (cs : List ℕ) (i : ℕ) → i < length cs → f (at cs i) ≡ true → any_row f cs ≡ true
any_hit f [] i l e = absurd (not-suc-le-zero l)
any_hit f (c ∷ cs) zero l e = ap (λ (b : Bool). b || any_row f cs) e
any_hit f (c ∷ cs) (suc i) l e =
    ap (λ (b : Bool). f c || b) (any_hit f cs i (le_of_suc-le-suc l) e) ∙ or-true (f c)

any_miss : (f : ℕ → Bool) (cs : List ℕ) → ((i : ℕ) → i < length cs → f (at cs i) ≡ false) → any_row f cs ≡ false
any_miss f [] h = refl
any_miss f (c ∷ cs) h =
    ap (λ (b : Bool). b || any_row f cs) (h 0 (omega arith)) ∙ any_miss f cs (λ i l. h (suc i) (omega arith))

-- a row of a role passes exactly if one of its rows does
some_any : (f : ℕ → Bool) (r : ℕ) (cs : List ℕ) → some f r (with_role r cs) ≡ any_row f cs
unfolding some with_role
some_any f r [] = refl
some_any f r (c ∷ cs) = ap₂ (λ (a b : Bool). (a && f c) || b) (eq-eqb r r refl) (some_any f r cs)

-- ── the rows that remain, without their role ──
-- how many rows remain: not gone, and the last of its equals
abbrev remain : (ℕ → Bool) → List ℕ → ℕ
remain gone [] = 0
remain gone (c ∷ cs) = cond (gone c || held cs c) (remain gone cs) (suc (remain gone cs))

module _ (axis : ℕ) (level : List ℕ) where
  -- row w is redundant among these
  abbrev redundant : List ℕ → ℕ → Bool
  redundant cs w = any_row (drops axis level w) cs

  remaining_rows : (r : ℕ) (all cs : List ℕ)
      → length (remaining axis level (with_role r all) (with_role r cs)) ≡ remain (redundant all) cs
  unfolding remaining with_role
  remaining_rows r all [] = refl
  remaining_rows r all (c ∷ cs) =
      over (some (drops axis level c) r (with_role r all) || some (λ d. eqb d c) r (with_role r cs))
      ∙ ap₂ (λ (b : Bool) (k : ℕ). cond b k (suc k))
      (ap₂ (λ (a b : Bool). a || b) (some_any (drops axis level c) r all) (some_any (λ d. eqb d c) r cs))
      (remaining_rows r all cs)
    where
      rest : List Pair
      rest = remaining axis level (with_role r all) (with_role r cs)

      over : (b : Bool) → length (cond b rest (pair r c ∷ rest)) ≡ cond b (length rest) (suc (length rest))
      over true = refl
      over false = refl

  kept_remain : (cs : List ℕ) → kept_of axis level cs ≡ remain (redundant cs) cs
  unfolding kept_of kept_count
  kept_remain cs = remaining_rows 0 cs cs

-- the role's number plays no part
pub kept_role : (axis : ℕ) (level : List ℕ) (r : ℕ) (cs : List ℕ)
    → kept_count axis level (with_role r cs) ≡ kept_of axis level cs
unfolding kept_of kept_count
kept_role axis level r cs = remaining_rows axis level r cs cs ∙ sym (remaining_rows axis level 0 cs cs)

-- ── counting rows ──
-- one more row passes
gather_more : (f g : ℕ → Bool) (c n : ℕ) → c < n → ((w : ℕ) → (w ≡ c → ⊥) → f w ≡ g w) → f c ≡ true → g c ≡ false
    → length (gather f n) ≡ suc (length (gather g n))
gather_more f g c zero l h p q = absurd (not-suc-le-zero l)
gather_more f g c (suc n) l h p q = ⊎_elim
    (λ (e : c ≡ n).
    let a = gather_length f n in
    let b = gather_length g n in
    let same = ap length (gather_ext f g n (λ w m. h w (λ z. omega arith))) in
    let i : length (only (f n) n) ≡ 1 = ap length (only_one (f n) n (ap f (sym e) ∙ p)) in
    let o : length (only (g n) n) ≡ 0 = ap length (only_none (g n) n (ap g (sym e) ∙ q)) in
    omega arith)
    (λ (m : c < n).
    let a = gather_length f n in
    let b = gather_length g n in
    let ih = gather_more f g c n m h p q in
    let same = ap (λ (t : Bool). length (only t n)) (h n (λ z. omega arith)) in
    omega arith)
    (eq-or-lt_of_le (le_of_suc-le-suc l))

-- row w is one of the rows, and not gone
abbrev stays : (ℕ → Bool) → List ℕ → ℕ → Bool
stays gone cs w = held cs w && not (gone w)

-- the rows that remain are those that stay
remain_gather : (gone : ℕ → Bool) (n : ℕ) (cs : List ℕ) → ((i : ℕ) → i < length cs → at cs i < n)
    → remain gone cs ≡ length (gather (stays gone cs) n)
remain_gather gone n [] h =
    sym (ap length (gather_skip (stays gone []) 0 n (omega arith) (λ w a b. refl) ∙ gather_zero (stays gone [])))
remain_gather gone n (c ∷ cs) h =
    go (gone c) refl (held cs c) refl (remain_gather gone n cs (λ i l. h (suc i) (omega arith)))
  where
    -- a row that is gone, or stands again, adds nothing
    nothing : stays gone cs c ≡ not (gone c) → (w : ℕ) → stays gone cs w ≡ stays gone (c ∷ cs) w
    nothing e w = same (eqb c w) refl
      where
        same : (b : Bool) → eqb c w ≡ b → stays gone cs w ≡ ((b || held cs w) && not (gone w))
        same true z = subst (λ (v : ℕ). stays gone cs v ≡ not (gone v)) (eqb-true c w z) e
        same false z = refl

    go : (a : Bool) → gone c ≡ a → (b : Bool) → held cs c ≡ b → remain gone cs ≡ length (gather (stays gone cs) n)
        → cond (a || b) (remain gone cs) (suc (remain gone cs)) ≡ length (gather (stays gone (c ∷ cs)) n)
    go true p b q ih =
        let e : stays gone cs c ≡ not (gone c) =
        ap (λ (t : Bool). held cs c && not t) p ∙ and-false (held cs c) ∙ sym (ap not p) in
        ih ∙ ap length (gather_ext _ _ n (λ w l. nothing e w))
    go false p true q ih =
        ih ∙ ap length (gather_ext _ _ n (λ w l. nothing (ap (λ (t : Bool). t && not (gone c)) q) w))
    go false p false q ih =
        ap suc ih ∙ sym (gather_more (stays gone (c ∷ cs)) (stays gone cs) c n (h 0 (omega arith))
        (λ w d. ap (λ (t : Bool). (t || held cs w) && not (gone w)) (ne_eqb c w (λ e. d (sym e))))
        (ap₂ (λ (s t : Bool). (s || held cs c) && not t) (eq-eqb c c refl) p)
        (ap (λ (t : Bool). t && not (gone c)) q))

-- ── the rows that are kept ──
-- row w is a context, and not redundant
pub kept_row : ℕ → List ℕ → List ℕ → ℕ → Bool
kept_row axis level cs w = stays (redundant axis level cs) cs w

-- how many rows below n are kept
pub kept_below : ℕ → List ℕ → List ℕ → ℕ → ℕ
kept_below axis level cs n = length (gather (kept_row axis level cs) n)

module _ (axis : ℕ) (level cs : List ℕ) where
  -- the kept count is the number of rows kept
  pub kept_rows : (n : ℕ) → ((i : ℕ) → i < length cs → at cs i < n) → kept_of axis level cs ≡ kept_below axis level cs n
  unfolding kept_row kept_below
  kept_rows n h = kept_remain axis level cs ∙ remain_gather (redundant axis level cs) n cs h

  -- no context
  pub row_none : (w : ℕ) → ((i : ℕ) → i < length cs → at cs i ≡ w → ⊥) → kept_row axis level cs w ≡ false
  unfolding kept_row
  row_none w h =
      ap (λ (b : Bool). b && not (redundant axis level cs w))
      (any_miss (λ c. eqb c w) cs (λ i l. ne_eqb (at cs i) w (h i l)))

  -- redundant, by a context
  pub row_dropped : (w i : ℕ) → i < length cs → drops axis level w (at cs i) ≡ true → kept_row axis level cs w ≡ false
  unfolding kept_row
  row_dropped w i l e =
      ap (λ (b : Bool). held cs w && not b) (any_hit (drops axis level w) cs i l e) ∙ and-false (held cs w)

  -- a context that no context makes redundant
  pub row_kept : (i : ℕ) → i < length cs → ((j : ℕ) → j < length cs → drops axis level (at cs i) (at cs j) ≡ false)
      → kept_row axis level cs (at cs i) ≡ true
  unfolding kept_row
  row_kept i l h = ap₂ (λ (a b : Bool). a && not b)
      (any_hit (λ c. eqb c (at cs i)) cs i l (eq-eqb (at cs i) (at cs i) refl))
      (any_miss (drops axis level (at cs i)) cs h)

  -- past rows that are not kept
  pub below_skip : (a b : ℕ) → a ≤ b → ((w : ℕ) → a ≤ w → w < b → kept_row axis level cs w ≡ false)
      → kept_below axis level cs b ≡ kept_below axis level cs a
  unfolding kept_below
  below_skip a b l h = ap length (gather_skip (kept_row axis level cs) a b l h)

  -- past a row that is
  pub below_next : (w : ℕ) → kept_row axis level cs w ≡ true
      → kept_below axis level cs (w + 1) ≡ kept_below axis level cs w + 1
  unfolding kept_below
  below_next w e =
      ap (λ (n : ℕ). length (gather (kept_row axis level cs) n)) (add-one w)
      ∙ ap length (gather_yes (kept_row axis level cs) w e)
      ∙ length-append (gather (kept_row axis level cs) w) (w ∷ [])

  -- no row is
  pub below_none : (n : ℕ) → ((w : ℕ) → w < n → kept_row axis level cs w ≡ false) → kept_below axis level cs n ≡ 0
  unfolding kept_below
  below_none n h =
      below_skip 0 n (omega arith) (λ w a b. h w b) ∙ ap length (gather_zero (kept_row axis level cs))

-- ── axes that keep the same ──
module _ (level cs : List ℕ) where
  -- axes on which the same is redundant
  kept_alike : (a b : ℕ) → ((c d : ℕ) → drops a level c d ≡ drops b level c d) → kept_of a level cs ≡ kept_of b level cs
  kept_alike a b h =
      kept_remain a level cs
      ∙ ap (λ (f : ℕ → ℕ → Bool). remain (λ w. any_row (f w) cs) cs) (fun_ext (λ c. fun_ext (h c)))
      ∙ sym (kept_remain b level cs)

  module _ {axis : ℕ} where
    -- one of two neighbours
    neighbour : (k : ℕ) → k ≤ axis → axis < suc (suc k) → (axis ≡ k) ⊎ (axis ≡ suc k)
    neighbour k a b =
        ⊎_elim (λ e. inr e) (λ (l : axis < suc k). inl (omega arith)) (eq-or-lt_of_le (le_of_suc-le-suc b))

    -- descendant, with or without self
    pub kept_descend : 3 ≤ axis → axis < 5 → kept_of 3 level cs ≡ kept_of axis level cs
    unfolding drops
    kept_descend a b = kept_alike 3 axis (λ c d. ⊎_elim (λ e. rw e) (λ e. rw e) (neighbour 3 a b))

    -- ancestor, with or without self
    pub kept_ascend : 6 ≤ axis → axis < 8 → kept_of 6 level cs ≡ kept_of axis level cs
    unfolding drops
    kept_ascend a b = kept_alike 6 axis (λ c d. ⊎_elim (λ e. rw e) (λ e. rw e) (neighbour 6 a b))

    -- following and preceding
    pub kept_aside : 8 ≤ axis → axis < 10 → kept_of 8 level cs ≡ kept_of axis level cs
    unfolding drops
    kept_aside a b = kept_alike 8 axis (λ c d. ⊎_elim (λ e. rw e) (λ e. rw e) (neighbour 8 a b))

    -- the other axes, on which none is redundant
    pub kept_plain : (axis < 3) ⊎ ((axis ≡ 5) ⊎ (10 ≤ axis)) → kept_of 1 level cs ≡ kept_of axis level cs
    unfolding drops
    kept_plain g = kept_alike 1 axis (λ c d. simp (
      off 3 (omega arith),
      off 4 (omega arith),
      off 6 (omega arith),
      off 7 (omega arith),
      off 8 (omega arith),
      off 9 (omega arith),
    ))
      where
        off : (k : ℕ) → (3 ≤ k) × (k < 10) × (k ≡ 5 → ⊥) → eqb axis k ≡ false
        off k h = ne_eqb axis k (λ e. ⊎_elim
            (λ l. omega arith)
            (⊎_elim (λ m. omega (arith, h.2 (sym e ∙ m))) (λ l. omega arith))
            g)

-- no context, no pair
pub kept_none : (axis : ℕ) (level cs : List ℕ) → length cs ≡ 0 → 0 ≡ kept_of axis level cs
kept_none axis level [] e = sym (kept_remain axis level [])
kept_none axis level (c ∷ cs) e = absurd (omega arith)

-- no more remain than there are
pub kept_most : (axis : ℕ) (level cs : List ℕ) → kept_of axis level cs ≤ length cs
kept_most axis level cs = rw (kept_remain axis level cs) (remain_most (redundant axis level cs) cs)
  where
    remain_most : (gone : ℕ → Bool) (cs : List ℕ) → remain gone cs ≤ length cs
    remain_most gone [] = le_refl 0
    remain_most gone (c ∷ cs) = go (gone c || held cs c) (remain_most gone cs)
      where
        go : (b : Bool) → remain gone cs ≤ length cs → cond b (remain gone cs) (suc (remain gone cs)) ≤ suc (length cs)
        go true l = omega arith
        go false l = omega arith
