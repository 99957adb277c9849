-- Later siblings that are written without a set: how far those of a context go, and contexts of one parent. Assumes
-- nothing.
use Rattle.std.specs.Prelude.{ℕ, suc, ◌+◌, ◌<◌, ◌≡◌, List, length}
use Rattle.tree.specs.Table.{at}
use Rattle.tree.specs.Tree.{parent}
use Rattle.scan.specs.declared.trees.Trees.{Trees}

-- the later siblings of c are before row e: the end of the descendants of its parent, or at a root the next row
pub record LaterEnd (trees : Trees) (c e : ℕ) : Type 0 where
  pub root : parent trees.level.now c ≡ 0 → e ≡ c + 1
  pub child : (p : ℕ) → parent trees.level.now c ≡ suc p → e ≡ p + at trees.size.now p + 1

-- there are contexts, and all have the same parent, or none has one: as the column of parents has it
pub record OneParent (up cs : List ℕ) : Type 0 where
  pub some : 0 < length cs
  pub same : (k : ℕ) → k < length cs → at up (at cs k) ≡ at up (at cs 0)
