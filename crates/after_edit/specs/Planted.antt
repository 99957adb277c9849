-- Where an inserted piece stands: RULES 01, "Finding and editing by key": it becomes the parent's last child.
-- That it does is `piece_there` and `last_child` (proofs/PlantedLaws.antt). Assumes nothing.
use Rattle.std.specs.Prelude.{ℕ, suc, ◌+◌, ◌<◌, ◌≡◌, List}
use Rattle.tree.specs.Table.{Table, at}
use Rattle.tree.specs.Tree.{parent}

-- row j of the piece p is row w of the table u that its insertion under row r of the table t leaves: it holds what it
-- held, and its level rose by the parent's level plus one
pub record Planted (t : Table) (r : ℕ) (p u : Table) (j w : ℕ) : Type 0 where
  pub in_use : w < u.count
  pub key : at u.key w ≡ at p.key j
  pub size : at u.size w ≡ at p.size j
  pub level : at u.level w ≡ at p.level j + (at t.level r + 1)
  pub kind : at u.kind w ≡ at p.kind j
  pub name : at u.name w ≡ at p.name j

-- by the levels of n rows, row c is a child of row r, and no later row is
pub record LastChild (level : List ℕ) (n r c : ℕ) : Type 0 where
  pub in_use : c < n
  pub child : parent level c ≡ suc r
  pub last : (w : ℕ) → c < w → w < n → parent level w ≡ suc r → ⊥
