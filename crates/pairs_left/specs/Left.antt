-- How many pairs stay, and what the functions that write them ask for and leave. No contract of an entry point cites
-- it. Assumes nothing.
use Rattle.std.specs.Prelude.{◌≡◌, true, cond, List, [], ◌∷◌, ℕ, zero, suc, ◌+◌, ◌≤◌, ℤ, pos, nat_abs, ◌+ℤ◌, length}
use Rattle.std.specs.Prelude.{take, drop, set}
use Rattle.tree.specs.Table.{most_rows, at}
use Rattle.tree.specs.Pairs.{Pair, pairs_of, roles_of, rows_of}
use Rattle.tree.specs.StepRules.{PairsFit}
use Rattle.tree.specs.Outcome.{overwritten}
use Rattle.tree.specs.Carry.{row_after, carried_by, carried, move_ok}
use Rattle.tree.specs.CarryRules.{new_row, gone_row}
use Rattle.pairs_left.specs.declared.Move.{Move}

-- the old count, the first moved row, its move and where it went, as one
abbrev pub move_of : ℕ → ℕ → ℤ → ℕ → Move
move_of old first moved to = record { old = old; first = first; moved = moved; to = to }

-- how many of these rows stay
unfoldable pub left_of : ℕ → ℕ → List ℕ → ℕ
left_of to first [] = 0
left_of to first (w ∷ ws) = cond (gone_row to first w) 0 1 + left_of to first ws

-- refusals 1, 3 to 5, 17 and 8 do not apply; `to` is where the first moved row went, and so many pairs are left
pub record Ready (role row : List ℕ) (m : Move) (left : ℕ) (outRole outRow : List ℕ) : Type 0 where
  pub few : m.old ≤ most_rows
  pub pairs : PairsFit role row m.old
  pub move : move_ok m.old m.first m.moved ≡ true
  pub lands : pos m.first +ℤ m.moved ≡ pos m.to
  pub many : left ≡ left_of m.to m.first row
  pub roles : left ≤ length outRole
  pub rows : left ≤ length outRow

-- the new list stands in front of both result columns
pub record Carries (role row : List ℕ) (m : Move) (oldRole oldRow outRole outRow : List ℕ) : Type 0 where
  pub role_is : outRole ≡ overwritten (roles_of (carried m.first m.moved (pairs_of role row))) oldRole
  pub row_is : outRow ≡ overwritten (rows_of (carried m.first m.moved (pairs_of role row))) oldRow

-- ── a few pairs ──
-- both result columns, and the number of the next result
pub record Filled : Type 0 where
  pub role : List ℕ
  pub row : List ℕ
  pub next : ℕ

-- the same of its parts
abbrev pub filled : List ℕ → List ℕ → ℕ → Filled
filled role row next = record { role = role; row = row; next = next }

-- the pair at place i written as the next result, which counts only where the pair stays
unfoldable pub put : List ℕ → List ℕ → Move → ℕ → Filled → Filled
put role row m i s =
    filled (set s.role s.next (at role i))
    (set s.row s.next (nat_abs (row_after m.first m.moved (at row i))))
    (s.next + cond (gone_row m.to m.first (at row i)) 0 1)

-- k pairs, from place i on
unfoldable pub puts : ℕ → List ℕ → List ℕ → Move → ℕ → Filled → Filled
puts zero role row m i s = s
puts (suc k) role row m i s = put role row m (i + k) (puts k role row m i s)

-- k pairs from place i on can be read, and written from result number n on
pub record PutRoom (k : ℕ) (role row : List ℕ) (m : Move) (i n : ℕ) (outRole outRow : List ℕ) : Type 0 where
  pub few : m.old ≤ most_rows
  pub pairs : PairsFit role row m.old
  pub move : move_ok m.old m.first m.moved ≡ true
  pub read : i + k ≤ length role
  pub roles : n + k ≤ length outRole
  pub rows : n + k ≤ length outRow

-- k pairs were written, and the next result is number r
pub record Puts (k : ℕ) (role row : List ℕ) (m : Move) (i n : ℕ) (oldRole oldRow : List ℕ)
    (r : ℕ) (outRole outRow : List ℕ) : Type 0 where
  pub all : filled outRole outRow r ≡ puts k role row m i (filled oldRole oldRow n)
  pub most : r ≤ n + k

-- ── the first pairs ──
-- the first i pairs, carried
abbrev pub carried_up_to : List ℕ → List ℕ → Move → ℕ → List Pair
carried_up_to role row m i =
    carried_by (gone_row m.to m.first) (new_row m.to m.first) (take i (pairs_of role row))

-- a result column that begins with xs, n in number, and is as it was behind the first `left` results
pub record Begins (xs old : List ℕ) (left n : ℕ) (new : List ℕ) : Type 0 where
  pub front : take n new ≡ xs
  pub behind : drop left new ≡ drop left old
  pub long : length new ≡ length old

-- those of the first i pairs that stay, n in number, stand in front of both result columns
pub record Writing (role row : List ℕ) (m : Move) (left : ℕ) (oldRole oldRow outRole outRow : List ℕ) (n i : ℕ)
    : Type 0 where
  pub within : i ≤ length role
  pub many : n ≡ length (carried_up_to role row m i)
  pub roles : Begins (roles_of (carried_up_to role row m i)) oldRole left n outRole
  pub rows : Begins (rows_of (carried_up_to role row m i)) oldRow left n outRow
