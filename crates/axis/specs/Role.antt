-- What the step of one role asks for and leaves, on any axis. Assumes nothing.
use Rattle.std.specs.Prelude.{Bool, ◌||◌, List, ℕ, eqb}
use Rattle.scan.specs.OneRole.{reached, RoleIn, Wrote}
use Rattle.marks.specs.RowSet.{Blank}
use Rattle.links.specs.declared.walk.Walk.{Walk}

-- the axes whose rows come out as ranges
unfoldable pub ranged_axis : ℕ → Bool
ranged_axis axis = eqb axis 1 || (eqb axis 3 || (eqb axis 4 || (eqb axis 8 || eqb axis 9)))

-- the axes whose rows are on the ways up from the contexts
unfoldable pub above_axis : ℕ → Bool
above_axis axis = eqb axis 6 || eqb axis 7

-- the axes whose rows are put into a set first
unfoldable pub marked_axis : ℕ → Bool
marked_axis axis = eqb axis 2 || (eqb axis 5 || (eqb axis 10 || eqb axis 11))

-- contexts, an empty set and room for the rows
pub record RoleAsk (walk : Walk) (cs words out : List ℕ) : Type 0 where
  pub asks : RoleIn walk.axis walk.trees walk.test cs out
  pub blank : Blank words

-- the rows in front of out, and the set empty again
pub record RoleDone (walk : Walk) (cs words old : List ℕ) (r : ℕ) (new : List ℕ) : Type 0 where
  pub wrote : Wrote (reached walk.axis walk.trees walk.test cs) old r new
  pub blank : Blank words
