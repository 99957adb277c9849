-- Upper bounds of the number of lines of a step, by its roles and by its pairs, and what the functions that compute
-- them ask for. That they are bounds is `roles_most` (proofs/RoleBoundLaws.antt), `pairs_most`
-- (proofs/PairBoundLaws.antt) and the laws of proofs/AxisBoundLaws.antt. Assumes nothing.
use Rattle.std.specs.Prelude.{ℕ, zero, suc, ◌+◌, ◌<◌, ◌≤◌, cond, List, [], ◌∷◌, eqb, length}
use Rattle.tree.specs.Pairs.{most_pairs}
use Rattle.tree.specs.Search.{gather}
use Rattle.tree.specs.Table.{at}
use Rattle.tree.specs.Axis.{on_axis}
use Rattle.scan.specs.declared.trees.Trees.{Trees}

-- how many roles there are in a column where equal ones stand side by side
unfoldable pub roles_in : List ℕ → ℕ
roles_in [] = 0
roles_in (r ∷ []) = 1
roles_in (r ∷ s ∷ rs) = cond (eqb r s) 0 1 + roles_in (s ∷ rs)

-- how many of n rows lie on the axis of the context c
unfoldable pub on_count : ℕ → List ℕ → ℕ → ℕ → ℕ
on_count axis level n c = length (gather (λ w. on_axis axis level c w) n)

-- a row and its descendants
abbrev pub span_of : List ℕ → ℕ → ℕ
span_of size c = at size c + 1

-- the row that a link names and its descendants; a link is one more than a row, or 0 for none, which counts 1
unfoldable pub link_span : List ℕ → ℕ → ℕ
link_span size zero = 1
link_span size (suc p) = span_of size p

-- the parent of a row and the parent's descendants
abbrev pub parent_span : List ℕ → List ℕ → ℕ → ℕ
parent_span size up c = link_span size (at up c)

-- rows in use, of which there are few
pub record FewRows (trees : Trees) (cs : List ℕ) : Type 0 where
  pub inside : (i : ℕ) → i < length cs → at cs i < trees.count
  pub few : length cs ≤ most_pairs
