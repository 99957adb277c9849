-- When carrying pairs over an edit is accepted, as propositions: RULES 02, E1. That the checks of Carry say the same is
-- `move_ok_lem` (proofs/RowMoveLaws.antt) and `carry_passes` (proofs/CarryAccept.antt). Assumes nothing.
use Rattle.std.specs.Prelude.{◌≡◌, Bool, cond, ◌&&◌, List, ℕ, ◌+◌, ◌-◌, ◌≤◌, ltb, leb, ℤ, pos, ◌+ℤ◌, length}
use Rattle.tree.specs.Table.{most_rows}
use Rattle.tree.specs.Pairs.{pairs_of}
use Rattle.tree.specs.StepRules.{PairsFit}
use Rattle.tree.specs.Carry.{carried}

-- refusal 17 does not apply: the first moved row is in the table or just behind it and stands at the row `to` after the
-- edit, which leaves `new` rows
pub record MoveFits (old first : ℕ) (moved : ℤ) : Type 0 where
  pub to : ℕ
  pub new : ℕ
  pub some : 1 ≤ first
  pub within : first ≤ old
  pub lands : pos first +ℤ moved ≡ pos to
  pub leaves : pos old +ℤ moved ≡ pos new
  pub rows : 1 ≤ new
  pub few : new ≤ most_rows

-- the old count is 1 to `most_rows`, the pairs fit it, the move fits, and both result columns have room for the new
-- list
pub record CarryFits (role row : List ℕ) (old first : ℕ) (moved : ℤ) (outRole outRow : List ℕ) : Type 0 where
  pub some : 1 ≤ old
  pub few : old ≤ most_rows
  pub pairs : PairsFit role row old
  pub move : MoveFits old first moved
  pub roles : length (carried first moved (pairs_of role row)) ≤ length outRole
  pub rows : length (carried first moved (pairs_of role row)) ≤ length outRow

-- ── in row numbers, where the first moved row goes to the row `to`: RowMoveLaws, `new_row` and `gone_row_lem` ──
-- row w after the edit
abbrev pub new_row : ℕ → ℕ → ℕ → ℕ
new_row to first w = cond (ltb w first) w (w - first + to)

-- row w was deleted: it stood from the row `to` on and before the first moved row
abbrev pub gone_row : ℕ → ℕ → ℕ → Bool
gone_row to first w = leb to w && ltb w first
