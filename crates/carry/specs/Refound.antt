-- A list of pairs by its keys: what carrying means. That carrying over an accepted edit gives this list is
-- `carry_refinds` (proofs/GrantLaws.antt), over two in turn `carry_both` (proofs/CarryBothLaws.antt). Assumes nothing.
use Rattle.std.specs.Prelude.{ℕ, ◌<◌, not, List, map, ltb}
use Rattle.tree.specs.Table.{Table, at}
use Rattle.tree.specs.Sound.{row_of}
use Rattle.tree.specs.EditRules.{NoKey}
use Rattle.tree.specs.Pairs.{Pair, pair}
use Rattle.tree.specs.Carry.{carried_by}

-- the row that has in the table u the key of row w of the table t; u's count where none has it
abbrev pub refound_at : Table → Table → ℕ → ℕ
refound_at t u w = row_of u.key u.count (at t.key w)

-- the pairs of the table t whose key the table u has, each on the row that has it there
unfoldable pub refound : Table → Table → List Pair → List Pair
refound t u ps = carried_by (λ w. not (ltb (refound_at t u w) u.count)) (refound_at t u) ps

-- the pairs of the table t whose key the table u has, as they stand in t
unfoldable pub still_there : Table → Table → List Pair → List Pair
still_there t u ps = carried_by (λ w. not (ltb (refound_at t u w) u.count)) (λ w. w) ps

-- the role and the key of each pair
abbrev pub by_key : Table → List Pair → List Pair
by_key t ps = map (λ p. pair p.role (at t.key p.row)) ps

-- no key of the table t that is gone from the table u is in the table v
abbrev pub NotBack : Table → Table → Table → Type 0
NotBack t u v = (w : ℕ) → w < t.count → NoKey u (at t.key w) → NoKey v (at t.key w)
