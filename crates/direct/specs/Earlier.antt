-- Earlier siblings that are written as they are met: which rows they are, contexts whose parents do not fall, and what
-- the function that writes those of one context asks for. Assumes nothing.
use Rattle.std.specs.Prelude.{ℕ, suc, ◌+◌, ◌<◌, ◌≤◌, ◌≡◌, Bool, ◌&&◌, List, length}
use Rattle.tree.specs.Table.{at}
use Rattle.tree.specs.Tree.{parent}
use Rattle.tree.specs.Axis.{on_axis}
use Rattle.scan.specs.Want.{accepts}
use Rattle.scan.specs.Range.{rows_in}
use Rattle.scan.specs.OneRole.{Parents}
use Rattle.scan.specs.declared.trees.Trees.{Trees}
use Rattle.scan.specs.declared.want.NodeTest.{NodeTest}

-- the earlier siblings of c from row v on that pass, ascending
unfoldable pub earlier_from : List ℕ → ℕ → ℕ → (ℕ → Bool) → List ℕ
earlier_from level v c test = rows_in (λ w. on_axis 11 level c w && test w) v c

-- those that fit are to be written, and have room behind those written; row v is not after the parent of c, or has
-- the same
pub record EarlierIn (trees : Trees) (up : List ℕ) (test : NodeTest) (v c : ℕ) (out : List ℕ) (written : ℕ)
    : Type 0 where
  pub parents : Parents trees.level.now trees.count up
  pub row : c < trees.count
  pub order : v ≤ c
  pub from : (p : ℕ) → parent trees.level.now c ≡ suc p → p < v → parent trees.level.now v ≡ suc p
  pub in_kind : trees.count ≤ length test.kind.now
  pub in_name : trees.count ≤ length test.name.now
  pub room : written + length (earlier_from trees.level.now v c (accepts test)) ≤ length out

-- from context to context the parents do not fall: as the column of parents has them, 0 for none
pub record ParentsRise (up cs : List ℕ) : Type 0 where
  pub rise : (j k : ℕ) → j < k → k < length cs → at up (at cs j) ≤ at up (at cs k)
