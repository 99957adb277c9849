-- The pairs from a place on, and the run of equal roles that begins there. Assumes nothing.
use Rattle.std.specs.Prelude.{◌≡◌, List, ℕ, ◌-◌, ◌<◌, ◌≤◌, length, take, drop}
use Rattle.tree.specs.Table.{at}
use Rattle.tree.specs.Pairs.{Pair, pairs_of}

-- the pairs from place i on
abbrev pub pairs_from : List ℕ → List ℕ → ℕ → List Pair
pairs_from role row i = pairs_of (drop i role) (drop i row)

-- the rows from place i on, and before place j
abbrev pub run_rows : List ℕ → ℕ → ℕ → List ℕ
run_rows row i j = take (j - i) (drop i row)

-- the run of equal roles that begins at place i ends before place j
pub record RunEnd (role : List ℕ) (i j : ℕ) : Type 0 where
  pub after : i < j
  pub within : j ≤ length role
  pub same : (k : ℕ) → i ≤ k → k < j → at role k ≡ at role i
  pub next : j < length role → at role j ≡ at role i → ⊥
