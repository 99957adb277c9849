-- Pairs without a wrong place. No public contract cites it. Assumes nothing.
use Rattle.std.specs.Prelude.{◌≡◌, false, List, ℕ, ◌<◌, length}
use Rattle.tree.specs.Table.{at}
use Rattle.tree.specs.Pairs.{out_of_order}

-- no pair is less than the one before it
pub record Ordered (role row : List ℕ) : Type 0 where
  pub places : (i : ℕ) → i < length role → out_of_order role row i ≡ false

-- every row is below n
pub record Inside (row : List ℕ) (n : ℕ) : Type 0 where
  pub places : (i : ℕ) → i < length row → at row i < n
