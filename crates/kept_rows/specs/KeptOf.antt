-- The kept count of the contexts of one role: RULES 01, "The step"; and what the functions that count them ask for.
-- That the role's number plays no part is `kept_role` (proofs/KeptOfLaws.antt). Assumes nothing.
use Rattle.std.specs.Prelude.{ℕ, ◌≤◌, List, length}
use Rattle.tree.specs.Pairs.{most_pairs, with_role}
use Rattle.tree.specs.Kept.{kept_count}
use Rattle.scan.specs.declared.trees.Trees.{Trees}
use Rattle.scan.specs.OneRole.{Contexts}

-- how many distinct pairs of one role with these rows remain on an axis when redundant ones are dropped
unfoldable pub kept_of : ℕ → List ℕ → List ℕ → ℕ
kept_of axis level cs = kept_count axis level (with_role 0 cs)

-- one role's contexts, of which there are few
pub record KeptIn (trees : Trees) (cs : List ℕ) : Type 0 where
  pub contexts : Contexts cs trees.count
  pub few : length cs ≤ most_pairs
