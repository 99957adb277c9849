-- Which rows a deletion took: a row between two rows, `between`; any other not, `before_it`, `behind_it`. Assumes
-- nothing.
use mathlib.Core.Path.{◌≡◌, refl}
use mathlib.Core.Bool.{Bool, true, false, ◌&&◌}
use Prim.Native.Nat.{ℕ, ◌<◌, ◌≤◌}
use borrow.Author.Tests.{le-leb, lt-leb, lt-ltb, le-ltb}
use lib.Dec.{ltb, leb}
use Rattle.tree.specs.CarryRules.{gone_row}

-- a row in between was deleted, any other was not
pub between : (a b w : ℕ) → a ≤ w → w < b → gone_row a b w ≡ true
between a b w l m = rw (le-leb a w l, lt-ltb w b m)

pub before_it : (a b w : ℕ) → w < a → gone_row a b w ≡ false
before_it a b w l = rw (lt-leb a w l)

pub behind_it : (a b w : ℕ) → b ≤ w → gone_row a b w ≡ false
behind_it a b w l = go (leb a w)
  where
    go : (c : Bool) → (c && ltb w b) ≡ false
    go true = le-ltb w b l
    go false = refl
