-- Demand 3, as RULES 02, E2 amends it: when two edits of one table may be done in either order. What is the same
-- afterwards is `SameRows` (tree/specs/Table.antt). The theorem is `either_order` (proofs/EitherOrder.antt); why two
-- deletions of roots are left out, `roots_refused` (proofs/FarmPair.antt). Assumes nothing.
use Rattle.std.specs.Prelude.{ℕ, ◌+◌, ◌≤◌, ◌<◌, ◌≡◌, false}
use Rattle.tree.specs.Table.{Table, most_rows, at, shortest}
use Rattle.tree.specs.Tree.{ancestor}
use Rattle.tree.specs.Outcome.{EditOutcome}
use Rattle.after_edit.specs.Act.{Act, insertion, deletion, renaming, outcome, Accepted, row_named, brings, new_keys}

-- the edit is a deletion that names a root
abbrev pub DeletesRoot : Act → Table → Type 0
DeletesRoot (insertion k p) t = ⊥
DeletesRoot (deletion k) t = at t.level (row_named (deletion k) t) ≡ 0
DeletesRoot (renaming k m) t = ⊥

-- the conditions of demand 3 on the edits a and b of the table t
pub record Independent (a b : Act) (t : Table) : Type 0 where
  -- each is accepted on the same starting table
  pub accepted_a : Accepted (outcome a t)
  pub accepted_b : Accepted (outcome b t)
  -- the named rows differ, and neither is an ancestor of the other
  pub rows_differ : row_named a t ≡ row_named b t → ⊥
  pub a_not_above : ancestor t.level (row_named a t) (row_named b t) ≡ false
  pub b_not_above : ancestor t.level (row_named b t) (row_named a t) ≡ false
  -- RULES 02, E2: they are not two deletions that both name roots
  pub one_root : DeletesRoot a t → DeletesRoot b t → ⊥
  -- no key is in both pieces
  pub keys_differ : (i j : ℕ) → i < brings a → j < brings b → at (new_keys a) i ≡ at (new_keys b) j → ⊥
  -- the limit and the shortest column have room for both
  pub in_limit : t.count + brings a + brings b ≤ most_rows
  pub in_columns : t.count + brings a + brings b ≤ shortest t

-- the two in turn: the outcome of b on the table that a leaves
abbrev pub in_turn : Act → Act → Table → EditOutcome
in_turn a b t = outcome b (outcome a t).table
