-- Spare rows are never read: RULES 01, "The table". A table cut to its rows in use gets the same answers, `cut-..`. So
-- two tables whose rows in use are the same get the same answer to the check, `in_use_check`, to a find, `in_use_find`,
-- and to a step, result columns too, `in_use_step`. `SameRows` is the only premise: of each column it says that it has
-- as many rows as the count in both tables or in neither, so refusal 1 agrees too. For edits: `in_use_edit`,
-- `in_use_piece` (after_edit/proofs/InUseLaws.antt). Assumes nothing.
use mathlib.Core.Path.{◌≡◌, refl, sym, ap, ap₂, ◌∙◌}
use mathlib.Core.Logic.{inl, inr}
use mathlib.Core.Bool.{Bool, true, false, cond, not, ◌&&◌, ◌||◌}
use mathlib.Core.List.{List, [], ◌∷◌, ◌++◌}
use Prim.Native.Nat.{ℕ, zero, suc, ◌+◌, ◌-◌, ◌<◌, ◌≤◌, min}
use native.Mathlib.Nat.{zero-sub}
use native.Mathlib.Numerals.{unary_clauses}
use native.Mathlib.Omega.{arith}
use borrow.Author.Tests.{ltb-true, leb-true, le-leb}
use lib.Dec.{eqb, ltb, leb}
use lib.ListN.{take, drop, length-take}
use lib.Seq.{take-take, get_or-take}
use Rattle.tree.specs.Search.{some_below, nearest}
use Rattle.tree.specs.Table.{Table, at, shortest, count_ok, SameRows}
use Rattle.tree.specs.Sound.{level_ok, run_of, size_of, size_ok, row_of, key_ok, beside_key_ok, row_ok, first_bad}
use Rattle.tree.specs.Tree.{parent, above, ancestor, siblings, root, same_tree, other_root}
use Rattle.tree.specs.Axis.{following, preceding, on_axis}
use Rattle.tree.specs.Test.{passes}
use Rattle.tree.specs.Pairs.{Pair, pairs_of, with_role, some, distinct}
use Rattle.tree.specs.Step.{Ask, listed, reached, lines_of, step_list}
use Rattle.tree.specs.Kept.{drops, remaining, kept_count}
use Rattle.tree.specs.Refusal.{next, table_check, pair_check, Checked}
use Rattle.tree.specs.Outcome.{check_outcome, stands_by, standing, located, find_outcome, found_at}
use Rattle.tree.specs.Outcome.{step_if, step_check, step_outcome}
use Rattle.tree.proofs.SearchLaws.{least_ext, gather_ext}
use Rattle.tree.proofs.TreeLaws.{parent_below}
use Rattle.tree.proofs.AxisLaws.{same_test}
use Rattle.tree.proofs.StepLaws.{In}
use Rattle.tree.proofs.RoleLaws.{pair_passes}
use Rattle.tree.proofs.PairColumns.{pairs_below}
use Rattle.std.specs.Prelude.{Ok, Err}
use Rattle.tree.specs.declared.Refusal.TheVariants.{UnknownKey}
use Rattle.tree.specs.declared.Refusal.{Refusal}

-- the table with no spare rows
abbrev pub cut : Table → Table
cut t = record {
  key = take t.count t.key;
  size = take t.count t.size;
  level = take t.count t.level;
  kind = take t.count t.kind;
  name = take t.count t.name;
  count = t.count;
}

-- tables whose rows in use are the same are cut to the same
pub cut_same : (t u : Table) → SameRows t u → cut t ≡ cut u
cut_same t u s = cc

-- ── what is read of the levels ──
-- two tests that agree below n have the same nearest
nearest_ext : (f g : ℕ → Bool) (n : ℕ) → ((k : ℕ) → k < n → f k ≡ g k) → nearest f n ≡ nearest g n
unfolding nearest
nearest_ext f g zero h = refl
nearest_ext f g (suc n) h =
    ap₂ (λ (b : Bool) (k : ℕ). cond b (suc n) k) (h n (omega arith)) (nearest_ext f g n (λ k l. h k (omega arith)))

-- one step of a climb to c, from a row whose parent is one less than q; f is what follows at the parent
abbrev climb : (ℕ → Bool) → ℕ → ℕ → Bool
climb f c q = elim q [ zero ↦ false | suc p ↦ elim (eqb p c) [ true ↦ true | false ↦ f p ] ]

-- two climbs that agree at the parent agree
climb_ext : (f g : ℕ → Bool) (c q : ℕ) → ((p : ℕ) → q ≡ suc p → f p ≡ g p) → climb f c q ≡ climb g c q
climb_ext f g c zero h = refl
climb_ext f g c (suc p) h = ap (λ (b : Bool). elim (eqb p c) [ true ↦ true | false ↦ b ]) (h p refl)

-- a part that ends at n
cut_part : (g n : ℕ) (xs : List ℕ) → take (n - g) (drop g (take n xs)) ≡ take (n - g) (drop g xs)
cut_part zero n xs = simp unary_clauses (take-take n n xs (omega arith))
cut_part (suc g) zero xs = rw zero-sub
cut_part (suc g) (suc n) [] = refl
cut_part (suc g) (suc n) (x ∷ xs) = simp unary_clauses (cut_part g n xs)

module _ (n : ℕ) (level : List ℕ) where
  -- sizes by the levels
  cut_size : (i : ℕ) → i < n → size_of (take n level) n i ≡ size_of level n i
  unfolding size_of
  cut_size i l = ap₂ run_of (cut_part (i + 1) n level) (get_or-take n level i 0 l)

  -- the parent
  cut_parent : (w : ℕ) → w < n → parent (take n level) w ≡ parent level w
  unfolding parent
  cut_parent w l =
      nearest_ext _ _ w
      (λ k m. ap₂ (λ (a b : ℕ). eqb (a + 1) b) (get_or-take n level k 0 (omega arith)) (get_or-take n level w 0 l))

  -- the climb
  cut_above : (c f w : ℕ) → w < n → above (take n level) c f w ≡ above level c f w
  unfolding above
  cut_above c zero w l = refl
  cut_above c (suc f) w l =
      rw (cut_parent w l, above)
      (climb_ext _ _ c (parent level w) (λ p e. cut_above c f p (omega (arith, parent_below level w p e))))

  -- the ancestors
  cut_ancestor : (c w : ℕ) → w < n → ancestor (take n level) c w ≡ ancestor level c w
  unfolding ancestor
  cut_ancestor c w l = cut_above c w w l

  -- the root
  cut_root : (w : ℕ) → w < n → root (take n level) w ≡ root level w
  unfolding root
  cut_root w l = nearest_ext _ _ (suc w) (λ k m. ap (λ (a : ℕ). eqb a 0) (get_or-take n level k 0 (omega arith)))

  -- the axes
  cut_axis : (x c w : ℕ) → c < n → w < n → on_axis x (take n level) c w ≡ on_axis x level c w
  unfolding on_axis following preceding siblings same_tree
  cut_axis x c w m l = simp (
    cut_parent c m,
    cut_parent w l,
    cut_ancestor c w l,
    cut_ancestor w c m,
    cut_root c m,
    cut_root w l,
  )

  -- which pairs are redundant
  cut_drops : (x c d : ℕ) → c < n → d < n → drops x (take n level) c d ≡ drops x level c d
  unfolding drops same_tree
  cut_drops x c d m l = simp (cut_ancestor c d l, cut_ancestor d c m, cut_root c m, cut_root d l)

-- another root
pub cut_other : (n : ℕ) (level : List ℕ) (r : ℕ) → other_root (take n level) n r ≡ other_root level n r
unfolding other_root some_below
cut_other n level r =
    ap (λ (k : ℕ). ltb k n)
    (least_ext _ _ n (λ i l. ap (λ (x : ℕ). eqb x 0 && not (eqb i r)) (get_or-take n level i 0 l)))

-- ── the check and the find ──
-- the row of a key among the first m of n rows
pub cut_find : (n : ℕ) (key : List ℕ) (m k : ℕ) → m ≤ n → row_of (take n key) m k ≡ row_of key m k
unfolding row_of
cut_find n key m k h = least_ext _ _ m (λ i l. ap (λ (x : ℕ). eqb x k) (get_or-take n key i 0 (omega arith)))

-- two numbers that are cut to n
min_both : (n a b : ℕ) → min (min n a) (min n b) ≡ min n (min a b)
min_both n a b = omega arith

-- n is within a number that is cut to n exactly if it is within the number
leb_cut : (n a : ℕ) → leb n (min n a) ≡ leb n a
leb_cut n a =
    same_test _ _ (λ e. le-leb n a (omega (arith, leb-true n (min n a) e)))
    (λ e. le-leb n (min n a) (omega (arith, leb-true n a e)))

module _ (t : Table) where
  -- the shortest column
  cut_shortest : shortest (cut t) ≡ min t.count (shortest t)
  unfolding shortest
  cut_shortest = simp (length-take, min_both)

  -- the count
  pub cut_count : count_ok (cut t) ≡ count_ok t
  unfolding count_ok
  cut_count = simp (cut_shortest, leb_cut)

  -- the test of a row in use
  cut_row : (i : ℕ) → i < t.count → row_ok (cut t) i ≡ row_ok t i
  unfolding row_ok beside_key_ok level_ok size_ok key_ok
  cut_row i l =
      let m : i - 1 < t.count = omega arith in
      simp (
        get_or-take,
        cut_size t.count t.level i l,
        cut_find t.count t.key i (at t.key i) (omega arith),
      )

  -- the least row that is not sound
  pub cut_bad : first_bad (cut t) ≡ first_bad t
  unfolding first_bad
  cut_bad = least_ext _ _ t.count (λ i l. ap not (cut_row i l))

  -- refusals 1 and 2
  cut_check : table_check (cut t) ≡ table_check t
  unfolding table_check
  cut_check = rw (cut_count, cut_bad)

  -- a find: where a row in use stands
  cut_stands : (r : ℕ) (b : Bool) → ltb r t.count ≡ b
      → cond b (found_at (cut t) r) (Err UnknownKey) ≡ cond b (found_at t r) (Err UnknownKey)
  unfolding standing
  cut_stands r false e = refl
  cut_stands r true e =
      let l : r < t.count = ltb-true _ _ e in
      ap₂ (λ (d q : ℕ). Ok (stands_by r d q)) (get_or-take t.count t.level r 0 l)
      (cut_parent t.count t.level r l)

  cut_found : (k : ℕ) → find_outcome (cut t) k ≡ find_outcome t k
  unfolding find_outcome located
  cut_found k =
      rw (cut_check, cut_find t.count t.key t.count k (omega arith))
      (ap (next (table_check t)) (cut_stands (row_of t.key t.count k) _ refl))

-- ── the step ──
-- two tests that agree on the rows of the pairs pass on the same
some_ext : (f g : ℕ → Bool) (r : ℕ) (ps : List Pair) → ((p : Pair) → In p ps → f p.row ≡ g p.row)
    → some f r ps ≡ some g r ps
unfolding some
some_ext f g r [] h = refl
some_ext f g r (p ∷ ps) h =
    ap₂ (λ (x y : Bool). (eqb p.role r && x) || y) (h p (inl refl)) (some_ext f g r ps (λ q i. h q (inr i)))

-- the row of every pair is in use
abbrev pub Inside : ℕ → List Pair → Type 0
Inside n ps = (p : Pair) → In p ps → p.row < n

module _ (t : Table) (a : Ask) (ps : List Pair) (h : Inside t.count ps) where
  -- whether a role reaches a row
  cut_listed : (r w : ℕ) → w < t.count → listed (cut t) a ps r w ≡ listed t a ps r w
  unfolding listed
  cut_listed r w l =
      simp get_or-take (ap (λ (b : Bool). passes a.test a.name (at t.kind w) (at t.name w) && b)
      (some_ext _ _ r ps (λ p i. cut_axis t.count t.level a.axis p.row w (h p i) l)))

  -- the lines of some roles
  cut_lines : (rs : List ℕ) → lines_of (cut t) a ps rs ≡ lines_of t a ps rs
  unfolding lines_of reached
  cut_lines [] = refl
  cut_lines (r ∷ rs) =
      ap₂ (λ (ws : List ℕ) (qs : List Pair). with_role r ws ++ qs)
      (gather_ext _ _ t.count (λ w l. cut_listed r w l)) (cut_lines rs)

  -- the pairs that remain
  cut_remaining : (qs : List Pair) → Inside t.count qs
      → remaining a.axis (cut t).level ps qs ≡ remaining a.axis t.level ps qs
  unfolding remaining
  cut_remaining [] g = refl
  cut_remaining (q ∷ qs) g =
      ap₂ (λ (b : Bool) (z : List Pair). cond (b || some (λ c. eqb c q.row) q.role qs) z (q ∷ z))
      (some_ext _ _ q.role ps
      (λ p i. cut_drops t.count t.level a.axis q.row p.row (g q (inl refl)) (h p i)))
      (cut_remaining qs (λ p i. g p (inr i)))

-- where the pairs are refused, nothing else counts
refused_same : (c d e : Checked) (why : Refusal) (j k : ℕ) (xs ys : List Pair) (outRole outRow : List ℕ)
    → step_if (next c (next (Err why) d)) xs j outRole outRow
    ≡ step_if (next c (next (Err why) e)) ys k outRole outRow
unfolding step_if next
refused_same (Ok u) d e why j k xs ys outRole outRow = refl
refused_same (Err other) d e why j k xs ys outRole outRow = refl

-- a step
cut_step : (t : Table) (role row : List ℕ) (a : Ask) (outRole outRow : List ℕ)
    → step_outcome (cut t) role row a outRole outRow ≡ step_outcome t role row a outRole outRow
unfolding step_outcome step_check step_list kept_count
cut_step t role row a outRole outRow = go (pair_check role row t.count) refl
  where
    go : (c : Checked) → pair_check role row t.count ≡ c
        → step_outcome (cut t) role row a outRole outRow ≡ step_outcome t role row a outRole outRow
    go (Ok u) e =
        let ps : List Pair = pairs_of role row in
        let h : Inside t.count (pairs_of role row) =
        pairs_below t.count role row ((pair_passes role row t.count).0 e).inside in
        rw (cut_check t, cut_lines t a ps h (distinct ps), cut_remaining t a ps h ps h)
    go (Err why) e = rw (cut_check t, e) (refused_same (table_check t) _ _ why _ _ _ _ outRole outRow)

-- ── two tables ──
module _ (t u : Table) (s : SameRows t u) where
  -- 01: spare rows are never read by the check
  pub in_use_check : check_outcome t ≡ check_outcome u
  unfolding check_outcome
  in_use_check = sym (cut_check t) ∙ ap table_check (cut_same t u s) ∙ cut_check u

  -- nor by a find
  pub in_use_find : (k : ℕ) → find_outcome t k ≡ find_outcome u k
  in_use_find k = sym (cut_found t k) ∙ ap (λ (x : Table). find_outcome x k) (cut_same t u s) ∙ cut_found u k

  -- nor by a step
  pub in_use_step : (role row : List ℕ) (a : Ask) (outRole outRow : List ℕ)
      → step_outcome t role row a outRole outRow ≡ step_outcome u role row a outRole outRow
  in_use_step role row a outRole outRow =
      sym (cut_step t role row a outRole outRow)
      ∙ ap (λ (x : Table). step_outcome x role row a outRole outRow) (cut_same t u s)
      ∙ cut_step u role row a outRole outRow
