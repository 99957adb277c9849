-- `answer::of_located` meets its contract: a root, or a row whose parent's row is small enough for a signed number.
-- Assumes nothing.
use mathlib.Core.Path.{ap, subst}
use Prim.Native.Nat.{◌≤◌}
use native.Mathlib.Omega.{arith}
use mir.Syntax.{w64}
use mir.Facts.{to_z_pos}
use lib.IntN.{ℤ}
use Rattle.tree.specs.declared.Located.{Located}
use Rattle.answer.specs.Found.{parent_in, located_answer}
use Rattle.answer.proofs.of_located.Goals as goal
use Rattle.answer.proofs.of_located.Goals.{After-struct_known-1}

-- the parent of a row under it is small
small : (c : After-struct_known-1) → c.in-Under.child.parent ≤ 4096
small c =
    let entry = c in
    subst (λ (l : Located). parent_in l ≤ 4096) c.in-Under.is entry.requires

pub returns-in-Root : goal.returns-in-Root
unfolding located_answer
returns-in-Root c = rw c.in-Root.is

pub returns-in-Under : goal.returns-in-Under
unfolding located_answer
returns-in-Under c =
    let child = c.in-Under.child in
    rw c.in-Under.is
    (ap (λ (z : ℤ). record { refusal = 0; place = 0; row = child.row; level = child.level; parent = z })
    (to_z_pos w64 (omega (arith, small (goal.at.returns-in-Under c).After-struct_known-1))))
