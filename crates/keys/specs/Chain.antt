-- Rows chained by the bucket of their key, by which a repeated key is found, for any power of two of buckets. No
-- contract of an entry point cites it. Assumes nothing.
use Rattle.std.specs.Prelude.{◌≡◌, List, ℕ, ◌+◌, ◌-◌, ◌*◌, ◌/◌, ◌%◌, ◌^◌, ◌<◌, eqb}
use Rattle.tree.specs.Search.{nearest}
use Rattle.tree.specs.Table.{at}

-- a number below 2^32 for the key x: its halves times two odd numbers, whose products lie far apart for neighbours
unfoldable pub spread_of : ℕ → ℕ
spread_of x = (x % 2 ^ 32 * 0x61C8_8647 + x / 2 ^ 32 * 0x1B87_3593) % 2 ^ 32

-- how many buckets there are
abbrev pub buckets_of : ℕ → ℕ
buckets_of shift = 2 ^ (32 - shift)

-- the bucket of the key x: the upper bits of its number
unfoldable pub bucket_of : ℕ → ℕ → ℕ
bucket_of shift x = spread_of x / 2 ^ shift

-- one more than the last row below i whose key is in the bucket b, or 0
unfoldable pub last_in : ℕ → List ℕ → ℕ → ℕ → ℕ
last_in shift key b i = nearest (λ j. eqb (bucket_of shift (at key j)) b) i

-- no bucket has a row
pub record Empty (shift : ℕ) (heads : List ℕ) : Type 0 where
  pub none : (b : ℕ) → b < buckets_of shift → at heads b ≡ 0

-- the rows below i are chained: heads has the last row of each bucket, next the one before a row
pub record Chained (shift : ℕ) (key heads next : List ℕ) (i : ℕ) : Type 0 where
  pub heads_at : (b : ℕ) → b < buckets_of shift → at heads b ≡ last_in shift key b i
  pub next_at : (j : ℕ) → j < i → at next j ≡ last_in shift key (bucket_of shift (at key j)) j
