-- The node test of a step as a wanted kind and a wanted name, which a scan compares row by row: RULES 01, "The step".
-- That it is 01's test is `fits_passes` (proofs/WantLaws.antt). Assumes nothing.
use Rattle.std.specs.Prelude.{ℕ, Bool, true, cond, ◌&&◌, ◌||◌, List, eqb, Option, None, Some}
use Rattle.tree.specs.Table.{at}
use Rattle.tree.specs.declared.Ask.{Ask}
pub use Rattle.scan.specs.declared.want.NodeTest.{NodeTest}
pub use Rattle.scan.specs.declared.want.Want.{Want}

-- the kind that a test code asks for, if it asks for one
unfoldable pub wanted_kind : ℕ → Option ℕ
wanted_kind test =
    cond (eqb test 0) None
    (cond (eqb test 1 || eqb test 2) (Some 1)
    (cond (eqb test 3) (Some 2)
    (cond (eqb test 4) (Some 3)
    (cond (eqb test 5 || eqb test 6) (Some 4)
    (Some 0)))))

-- the name that a test asks for, 0 for none
abbrev pub wanted_name : ℕ → Option ℕ
wanted_name name = cond (eqb name 0) None (Some name)

-- what the test of a step wants
abbrev pub want_of : Ask → Want
want_of ask = record { kind = wanted_kind ask.test; name = wanted_name ask.name }

-- what a row has is as wanted, if anything is
abbrev pub as_wanted : Option ℕ → ℕ → Bool
as_wanted None own = true
as_wanted (Some x) own = eqb own x

-- row w has the wanted kind and the wanted name
unfoldable pub fits : Want → List ℕ → List ℕ → ℕ → Bool
fits want kind name w = as_wanted want.kind (at kind w) && as_wanted want.name (at name w)

-- row w is as the test wants it
abbrev pub accepts : NodeTest → ℕ → Bool
accepts test = fits test.want test.kind.now test.name.now
