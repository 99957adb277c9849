-- What the movers leave of the part of a column that is lent to them, and, between two steps of one, of a part and of
-- a column. No contract of an entry point cites it. That these make 01's opened and closed columns is in
-- proofs/MoverLaws.antt. Assumes nothing.
use Rattle.std.specs.Prelude.{ℕ, ◌+◌, ◌-◌, List, ◌++◌, take, drop, replicate}

-- the first n rows of a part, each moved to `by` rows further on
unfoldable pub shifted : ℕ → ℕ → List ℕ → List ℕ
shifted n by xs = take by xs ++ (take n xs ++ drop (n + by) xs)

-- the n rows of a part behind by rows of a piece
unfoldable pub opened_part : ℕ → ℕ → List ℕ → List ℕ → List ℕ
opened_part n by piece xs = take by piece ++ (take n xs ++ drop (n + by) xs)

-- a column of n rows in use after by rows from row r on went: later rows closed up, the freed ones are as they were
unfoldable pub pulled : ℕ → ℕ → ℕ → List ℕ → List ℕ
pulled r n by xs = take r xs ++ (take (n - (r + by)) (drop (r + by) xs) ++ drop (n - by) xs)

-- a column with zeros from one row up to another
unfoldable pub cleared : ℕ → ℕ → List ℕ → List ℕ
cleared from to xs = take from xs ++ (replicate (to - from) 0 ++ drop to xs)
