-- The trees of a table, each as a table of its own: RULES 02, E2. That a step on the table is the steps on its trees
-- together is `step_trees` (proofs/UnionLaws.antt); no contract cites these. Assumes nothing.
use Rattle.std.specs.Prelude.{◌≡◌, ℕ, zero, suc, ◌+◌, ◌-◌, ◌<◌, ◌≤◌, Bool, cond, not, List, eqb, length, take, drop}
use Rattle.tree.specs.Table.{Table, table_of, at}
use Rattle.tree.specs.Tree.{same_tree}
use Rattle.tree.specs.Pairs.{Pair, pairs_of, roles_of, rows_of}
use Rattle.tree.specs.Step.{Ask, step_list}
use Rattle.tree.specs.Kept.{kept_count}
use Rattle.tree.specs.Outcome.{StepOutcome, step_if, step_outcome}
use Rattle.tree.specs.Carry.{carried_by}
use Rattle.tree.specs.Refusal.{passed}

-- m rows of a column from row r on
abbrev pub part : ℕ → ℕ → List ℕ → List ℕ
part r m xs = take m (drop r xs)

-- the tree of the root r as a table of its own: the root and its descendants
abbrev pub tree_at : Table → ℕ → Table
tree_at t r =
    table_of
    (part r (at t.size r + 1) t.key)
    (part r (at t.size r + 1) t.size)
    (part r (at t.size r + 1) t.level)
    (part r (at t.size r + 1) t.kind)
    (part r (at t.size r + 1) t.name)
    (at t.size r + 1)

-- the pairs on the rows of the tree of the root r, with rows counted from r
unfoldable pub pairs_in : Table → ℕ → List Pair → List Pair
pairs_in t r ps = carried_by (λ w. not (same_tree t.level r w)) (λ w. w - r) ps

-- the sum of g over the rows below n that pass f
unfoldable pub sum_where : (ℕ → Bool) → (ℕ → ℕ) → ℕ → ℕ
sum_where f g zero = 0
sum_where f g (suc n) = sum_where f g n + cond (f n) (g n) 0

-- the sum over the trees of a table, each by its root
abbrev pub over_trees : Table → (ℕ → ℕ) → ℕ
over_trees t g = sum_where (λ r. eqb (at t.level r) 0) g t.count

-- ── a step on one tree alone, with the pairs that lie in it ──
-- what it answers and leaves in these result columns
abbrev pub tree_step : Table → List ℕ → List ℕ → Ask → ℕ → List ℕ → List ℕ → StepOutcome
tree_step t role row a r outRole outRow =
    step_outcome (tree_at t r) (roles_of (pairs_in t r (pairs_of role row)))
    (rows_of (pairs_in t r (pairs_of role row))) a
    outRole outRow

-- how many results it has
abbrev pub tree_results : Table → Ask → List Pair → ℕ → ℕ
tree_results t a ps r = length (step_list (tree_at t r) a (pairs_in t r ps))

-- its kept count
abbrev pub tree_kept : Table → ℕ → List Pair → ℕ → ℕ
tree_kept t axis ps r = kept_count axis (tree_at t r).level (pairs_in t r ps)

-- what the step on the whole table and those on its trees answer: results and kept count are the sums over the trees;
-- and with room the step on each tree is accepted, lists the lines that lie in the tree and has the tree's kept count
pub record Together (t : Table) (role row : List ℕ) (a : Ask) (results kept : ℕ) : Type 0 where
  pub results_sum : results ≡ over_trees t (tree_results t a (pairs_of role row))
  pub kept_sum : kept ≡ over_trees t (tree_kept t a.axis (pairs_of role row))
  pub each : (r : ℕ) → r < t.count → at t.level r ≡ 0 → (outRole outRow : List ℕ)
      → tree_results t a (pairs_of role row) r ≤ length outRole → tree_results t a (pairs_of role row) r ≤ length outRow
      → tree_step t role row a r outRole outRow
      ≡ step_if passed (pairs_in t r (step_list t a (pairs_of role row))) (tree_kept t a.axis (pairs_of role row) r)
      outRole outRow
