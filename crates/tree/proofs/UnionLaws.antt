-- A step on a table of several trees is the steps on its trees, each as a table of its own, together: RULES 02, E2. A
-- list of pairs is its trees' parts, `parts_together`; so results and kept count are the sums over the trees,
-- `results_trees`, `kept_trees_lem`. Of the calls themselves, in one sentence: `step_trees`. What is seen in one tree
-- is in PartStep.antt. Assumes nothing.
use mathlib.Core.Path.{◌≡◌, refl, sym, ap, ap₂, subst, ◌∙◌}
use mathlib.Core.Logic.{inl, inr, ⊎_elim}
use mathlib.Core.Bool.{Bool, true, false, cond, not, true≢false}
use mathlib.Core.List.{List, [], ◌∷◌}
use Prim.Native.Nat.{ℕ, zero, suc, ◌+◌, ◌<◌, ◌≤◌}
use native.Mathlib.Nat.{eq-or-lt_of_le, le_of_suc-le-suc, not-suc-le-zero}
use native.Mathlib.Omega.{arith}
use borrow.Author.Tests.{eqb-true, eq-eqb}
use lib.Dec.{eqb}
use lib.ListN.{length}
use Rattle.tree.specs.Table.{Table, at}
use Rattle.tree.specs.Rules.{Sound}
use Rattle.tree.specs.Tree.{same_tree}
use Rattle.tree.specs.Pairs.{Pair, pairs_of, roles_of, rows_of}
use Rattle.tree.specs.Step.{Ask, step_list}
use Rattle.tree.specs.StepRules.{PairsFit, TestRule}
use Rattle.tree.specs.Kept.{remaining, kept_count}
use Rattle.tree.specs.Outcome.{step_if, step_check, step_outcome, Stepped}
use Rattle.tree.specs.Carry.{carried_by}
use Rattle.tree.specs.Trees.{tree_at, pairs_in, sum_where, over_trees, tree_step, tree_results, tree_kept, Together}
use Rattle.tree.proofs.AxisLaws.{false_of}
use Rattle.tree.proofs.RootLaws.{Root, has_root, root_is, own_root, same_tree_lem}
use Rattle.tree.proofs.StepLaws.{Ordered, listed_exactly}
use Rattle.tree.proofs.RoleLaws.{pairs_ordered, pair_passes}
use Rattle.tree.proofs.StepAccept.{step_passes}
use Rattle.tree.proofs.PairColumns.{pairs_columns, pairs_below}
use Rattle.tree.proofs.CarryLaws.{carried_gone, carried_stays}
use Rattle.tree.proofs.KeptLaws.{remaining_in}
use Rattle.tree.proofs.RowsInUse.{Inside}
use Rattle.tree.proofs.PartLaws.{part_sound}
use Rattle.tree.proofs.PartStep.{pairs_fit, step_part, kept_part}
use Rattle.tree.specs.Refusal.{Checked, passed}
use Rattle.tree.specs.declared.Tally.{Tally}
use Rattle.std.specs.Prelude.{Ok, Err}

-- ── sums ──
-- of the same
sum_ext : (f : ℕ → Bool) (g k : ℕ → ℕ) (n : ℕ) → ((r : ℕ) → r < n → f r ≡ true → g r ≡ k r)
    → sum_where f g n ≡ sum_where f k n
unfolding sum_where
sum_ext f g k zero h = refl
sum_ext f g k (suc n) h =
    ap₂ (λ (x y : ℕ). x + y) (sum_ext f g k n (λ r l. h r (omega arith))) (go (f n) refl)
  where
    go : (b : Bool) → f n ≡ b → cond b (g n) 0 ≡ cond b (k n) 0
    go true e = h n (omega arith) e
    go false e = refl

-- of nothing
sum_zero : (f : ℕ → Bool) (n : ℕ) → sum_where f (λ r. 0) n ≡ 0
unfolding sum_where
sum_zero f zero = refl
sum_zero f (suc n) = let i = sum_zero f n in let j = go (f n) in omega arith
  where
    go : (b : Bool) → ◌≡◌ {A = ℕ} (cond b 0 0) 0
    go true = refl
    go false = refl

-- where one summand is greater by one
sum_one : (f : ℕ → Bool) (g k : ℕ → ℕ) (o n : ℕ) → o < n → f o ≡ true → k o ≡ g o + 1
    → ((r : ℕ) → r < n → (r ≡ o → ⊥) → f r ≡ true → k r ≡ g r) → sum_where f k n ≡ sum_where f g n + 1
unfolding sum_where
sum_one f g k o zero l p q h = absurd (not-suc-le-zero l)
sum_one f g k o (suc n) l p q h = ⊎_elim
    (λ (x : o ≡ n).
    let i = sum_ext f k g n (λ r y. h r (omega arith) (λ d. omega arith)) in
    let j = last x (f n) (ap f (sym x) ∙ p) in omega arith)
    (λ (x : o < n).
    let i = sum_one f g k o n x p q (λ r y. h r (omega arith)) in
    let j = rest x (f n) refl in omega arith)
    (eq-or-lt_of_le (le_of_suc-le-suc l))
  where
    last : o ≡ n → (b : Bool) → b ≡ true → cond b (k n) 0 ≡ cond b (g n) 0 + 1
    last x true d = ap k (sym x) ∙ q ∙ ap (λ (y : ℕ). g y + 1) x
    last x false d = absurd (true≢false (sym d))

    rest : o < n → (b : Bool) → f n ≡ b → cond b (k n) 0 ≡ cond b (g n) 0
    rest x true d = h n (omega arith) (λ y. omega arith) d
    rest x false d = refl

-- ── the trees together ──
module _ (t : Table) (s : Sound t) where
  -- 02: each pair is in exactly one tree, so a list is as long as its trees' parts together
  pub parts_together : (ps : List Pair) → Inside t.count ps → length ps ≡ over_trees t (λ r. length (pairs_in t r ps))
  unfolding pairs_in carried_by
  parts_together [] h = sym (sum_zero (λ r. eqb (at t.level r) 0) t.count)
  parts_together (p ∷ ps) h =
      let y : p.row < t.count = h p (inl refl) in
      let (o, w) = has_root t.level ((s.rows 0 (omega arith)).levels.root refl) p.row in
      let e = w.earlier in
      let n = parts_together ps (λ q i. h q (inr i)) in
      omega (
        arith,
        n,
        sum_one (λ r. eqb (at t.level r) 0) (λ r. length (pairs_in t r ps)) (λ r. length (pairs_in t r (p ∷ ps))) o
            t.count (omega arith) (eq-eqb _ _ w.top) (own o w) (λ r l d z. other o w r (eqb-true _ _ z) d),
      )
    where
      own : (o : ℕ) → Root t.level o p.row → length (pairs_in t o (p ∷ ps)) ≡ length (pairs_in t o ps) + 1
      own o w =
          ap length (carried_stays _ _ p ps
          (ap not ((same_tree_lem t.level o p.row).1
          (own_root t.level o w.top ∙ sym (root_is t.level p.row o w)))))
          ∙ (let i : suc (length (pairs_in t o ps)) ≡ length (pairs_in t o ps) + 1 = omega arith in i)

      other : (o : ℕ) → Root t.level o p.row → (r : ℕ) → at t.level r ≡ 0 → (r ≡ o → ⊥)
          → length (pairs_in t r (p ∷ ps)) ≡ length (pairs_in t r ps)
      other o w r z d =
          ap length (carried_gone _ _ p ps (ap not (false_of (same_tree t.level r p.row) (λ e.
          d (omega (
            arith,
            own_root t.level r z,
            (same_tree_lem t.level r p.row).0 e,
            root_is t.level p.row o w,
          ))))))

  -- 02: the kept count is the sum of the kept counts of the trees, each as a table of its own
  pub kept_trees_lem : (axis : ℕ) (ps : List Pair) → Inside t.count ps
      → kept_count axis t.level ps ≡ over_trees t (tree_kept t axis ps)
  unfolding kept_count
  kept_trees_lem axis ps h =
      parts_together (remaining axis t.level ps ps)
      (λ p i. h p ((remaining_in axis t.level ps ps p).0 i).0)
      ∙ sum_ext _ _ _ t.count (λ r l z. ap length (kept_part t s r l (eqb-true _ _ z) axis ps h ps h))

  module _ (a : Ask) (role row : List ℕ) (f : PairsFit role row t.count) where
    -- the lines of a step with these pairs in a tree
    tree_lines : (r : ℕ) → r < t.count → at t.level r ≡ 0
        → pairs_in t r (step_list t a (pairs_of role row)) ≡ step_list (tree_at t r) a
        (pairs_in t r (pairs_of role row))
    tree_lines r l z =
        step_part t s r l z a (pairs_of role row) (pairs_below t.count role row f.inside)
        (pairs_ordered role row t.count ((pair_passes role row t.count).1 f))
        (subst Ordered (pairs_columns (pairs_in t r (pairs_of role row)))
        (pairs_ordered _ _ (at t.size r + 1) ((pair_passes _ _ _).1 (pairs_fit t s r l z role row f))))

    -- 02: and so is the number of results
    pub results_trees : length (step_list t a (pairs_of role row)) ≡ over_trees t (tree_results t a (pairs_of role row))
    results_trees =
        parts_together (step_list t a (pairs_of role row))
        (λ p i. ((listed_exactly t a (pairs_of role row) p.role p.row).0 i).row)
        ∙ sum_ext _ _ _ t.count (λ r l z. ap length (tree_lines r l (eqb-true _ _ z)))

    -- with room the step on a tree alone is accepted, and lists the lines that lie in the tree
    tree_accepted : (1 ≤ a.axis) × (a.axis ≤ 11) → TestRule a.test a.name
        → (r : ℕ) → r < t.count → at t.level r ≡ 0 → (outRole outRow : List ℕ)
        → tree_results t a (pairs_of role row) r ≤ length outRole
        → tree_results t a (pairs_of role row) r ≤ length outRow
        → tree_step t role row a r outRole outRow
        ≡ step_if passed (pairs_in t r (step_list t a (pairs_of role row))) (tree_kept t a.axis (pairs_of role row) r)
        outRole outRow
    unfolding step_outcome
    tree_accepted axis test r l z outRole outRow x y =
        let ps : List Pair = pairs_in t r (pairs_of role row) in
        let same : pairs_of (roles_of ps) (rows_of ps) ≡ ps = pairs_columns ps in
        let passes = (step_passes (tree_at t r) (roles_of ps) (rows_of ps) a outRole outRow).1 (record {
          sound = part_sound t s r l z;
          pairs = pairs_fit t s r l z role row f;
          axis = axis;
          test = test;
          roles = rw same x;
          rows = rw same y;
        }) in
        ap₂ (λ (c : Checked) (qs : List Pair). step_if c (step_list (tree_at t r) a qs)
        (kept_count a.axis (tree_at t r).level qs) outRole outRow) passes same
        ∙ ap (λ (lines : List Pair). step_if passed lines (tree_kept t a.axis (pairs_of role row) r) outRole outRow)
        (sym (tree_lines r l z))

-- ── of the calls themselves ──
same_tally : (x y : Tally) → ◌≡◌ {A = Stepped} (Ok x) (Ok y) → x ≡ y
same_tally x y e = cc

-- 02: an accepted step on a table of several trees gives what the steps on its trees give together
pub step_trees : (t : Table) (role row : List ℕ) (a : Ask) (outRole outRow : List ℕ) (results kept : ℕ)
    → (step_outcome t role row a outRole outRow).answer ≡ Ok (record { listed = results; kept = kept })
    → Together t role row a results kept
unfolding step_outcome step_if
step_trees t role row a outRole outRow results kept = go (step_check t role row a outRole outRow) refl
  where
    go : (c : Checked) → step_check t role row a outRole outRow ≡ c
        → (step_if c (step_list t a (pairs_of role row)) (kept_count a.axis t.level (pairs_of role row)) outRole outRow
        ).answer ≡ Ok (record { listed = results; kept = kept })
        → Together t role row a results kept
    go (Err why) e d = absurd (omega (arith, let n : ◌≡◌ {A = ℕ} 0 1 = cc in n))
    go (Ok u) e d =
        let fits = (step_passes t role row a outRole outRow).0 e in
        let f = fits.pairs in
        record {
          results_sum = sym (ap (λ (x : Tally). x.listed) (same_tally _ _ d))
              ∙ results_trees t fits.sound a role row f;
          kept_sum = sym (ap (λ (x : Tally). x.kept) (same_tally _ _ d))
              ∙ kept_trees_lem t fits.sound a.axis (pairs_of role row) (pairs_below t.count role row f.inside);
          each = tree_accepted t fits.sound a role row f fits.axis fits.test;
        }
