-- A count of places with their next ones. Assumes nothing.
use Rattle.std.specs.Prelude.{ℕ, zero, suc, ◌+◌, Bool, cond}

-- one, and one more for each place from 1 to n that passes
unfoldable pub ends : (ℕ → Bool) → ℕ → ℕ
ends f zero = 1
ends f (suc n) = ends f n + cond (f (suc n)) 1 0
