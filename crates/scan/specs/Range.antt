-- The rows of a range that pass a test, and a result column to which they are appended: what the scans ask for and
-- leave. Then what the searches for the ends of ranges ask for and answer. Assumes nothing.
use Rattle.std.specs.Prelude.{ℕ, zero, suc, ◌+◌, ◌-◌, ◌^◌, ◌<◌, ◌≤◌, min, ◌≡◌, Bool, List, [], ◌++◌, length, take, drop}
use Rattle.tree.specs.Search.{only}
use Rattle.tree.specs.Table.{most_rows, at}
use Rattle.tree.specs.Outcome.{overwritten}
use Rattle.scan.specs.Want.{NodeTest, accepts}

-- of the k rows from a row on, those that pass by their number among them, ascending
unfoldable pub rows_from : ℕ → (ℕ → Bool) → ℕ → List ℕ
rows_from from f zero = []
rows_from from f (suc k) = rows_from from f k ++ only (f k) (from + k)

-- the rows from a row on, and before another, that pass, ascending
abbrev pub rows_in : (ℕ → Bool) → ℕ → ℕ → List ℕ
rows_in f from to = rows_from from (λ k. f (from + k)) (to - from)

-- a column with so many results written holds xs behind them now, and r results are written then
pub record Appended (xs old : List ℕ) (written r : ℕ) (new : List ℕ) : Type 0 where
  pub many : r ≡ written + length xs
  pub holds : new ≡ take written old ++ overwritten xs (drop written old)

-- a scan of a part of the columns, k rows from a row on, has room for those that pass
pub record ScanIn (from : ℕ) (f : ℕ → Bool) (k : ℕ) (out : List ℕ) (written : ℕ) : Type 0 where
  pub numbers : from + k < 2 ^ 64
  pub room : written + length (rows_from from f k) ≤ length out

-- the rows of a range are in the columns, and there is room for those that fit
pub record RangeIn (test : NodeTest) (from to : ℕ) (out : List ℕ) (written : ℕ) : Type 0 where
  pub order : from ≤ to
  pub in_kind : to ≤ length test.kind.now
  pub in_name : to ≤ length test.name.now
  pub room : written + length (rows_in (accepts test) from to) ≤ length out

-- the descendants of each context are rows in use
pub record EndsIn (size : List ℕ) (n : ℕ) (cs : List ℕ) : Type 0 where
  pub few : n ≤ most_rows
  pub in_size : n ≤ length size
  pub inside : (i : ℕ) → i < length cs → at cs i + at size (at cs i) < n

-- the least row that comes after one of the first k contexts and its descendants, or n
unfoldable pub first_after : List ℕ → ℕ → List ℕ → ℕ → ℕ
first_after size n cs zero = n
first_after size n cs (suc k) = min (first_after size n cs k) (at cs k + at size (at cs k) + 1)

-- subtrees are rows in use, and lie in each other or apart
pub record Nests (size : List ℕ) (n : ℕ) : Type 0 where
  pub few : n ≤ most_rows
  pub in_size : n ≤ length size
  pub inside : (w : ℕ) → w < n → w + at size w < n
  pub within : (v w : ℕ) → v < n → v < w → w ≤ v + at size v → w + at size w ≤ v + at size v

-- the rows from w on, and before r, have ended before row c, and r has not
pub record Ended (size : List ℕ) (c w r : ℕ) : Type 0 where
  pub from : w ≤ r
  pub to : r ≤ c
  pub ended : (v : ℕ) → w ≤ v → v < r → v + at size v < c
  pub holds : c ≤ r + at size r

-- the number of one of the contexts, which do not fall
pub record ContextIn (cs : List ℕ) (i : ℕ) : Type 0 where
  pub inside : i < length cs
  pub rising : (j k : ℕ) → j < k → k < length cs → at cs j ≤ at cs k

-- of the contexts from number i on, r is the first that is not before row end, or their number
pub record PastTree (cs : List ℕ) (i end r : ℕ) : Type 0 where
  pub from : i ≤ r
  pub to : r ≤ length cs
  pub before : (k : ℕ) → i ≤ k → k < r → at cs k < end
  pub after : r < length cs → end ≤ at cs r
