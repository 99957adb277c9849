-- `located::parent_of` meets its contract. The invariant: behind row i no row has the parent's level. Assumes nothing.
use mathlib.Core.Path.{◌≡◌, ap, ◌∙◌}
use mathlib.Core.Logic.{⊎_elim}
use Prim.Native.Nat.{ℕ, ◌≤◌, ◌<◌}
use native.Mathlib.Nat.{eq-or-lt_of_le}
use native.Mathlib.Omega.{arith}
use Rattle.tree.specs.Table.{at}
use Rattle.tree.specs.Tree.{parent}
use Rattle.located.proofs.ParentLaws.{parent_within, parent_here}
use Rattle.located.proofs.parent_of.Goals as goal
use Rattle.located.proofs.parent_of.Goals.{After-past_eights-i, In-loop-i}

-- the parent comes before the row that the eights led to
within : (c : After-past_eights-i)
    → parent c.args.level.now c.args.row ≤ c.past_eights-i.result
within c =
    let s = c in
    parent_within s.args.level.now s.args.row s.args.up s.requires.1 _ c.past_eights-i.ensures.1

pub overflow_sub-i : goal.overflow_sub-i
overflow_sub-i c = omega (arith, within (goal.at.overflow_sub-i c).After-past_eights-i, c.requires)

pub loop-i-init : goal.loop-i-init
loop-i-init c = (
  omega (arith, within (goal.at.loop-i-init c).After-past_eights-i, c.requires, c.past_eights-i.ensures.0),
  λ j a. c.past_eights-i.ensures.1 j (omega (arith, within (goal.at.loop-i-init c).After-past_eights-i, c.requires)),
)

-- row i has another level, so no row from it on has the parent's
none_from : (c : In-loop-i) → (j : ℕ) → c.loop-i.i ≤ j → j < c.args.row
    → at c.args.level.now j ≡ c.args.up → ⊥
none_from c j a b h =
    let l = c.loop-i in
    ⊎_elim
    (λ (q : l.i ≡ j). c.loop-i-test.true (ap (at c.args.level.now) q ∙ h))
    (λ (q : l.i < j). l.invariant.1 j (omega arith) b h)
    (eq-or-lt_of_le a)

-- so an earlier row is the parent
earlier : (c : In-loop-i)
    → parent c.args.level.now c.args.row ≤ c.loop-i.i
earlier c =
    let s = c in
    parent_within s.args.level.now s.args.row s.args.up s.requires.1 _ (none_from c)

pub overflow_sub-i-in-loop-i : goal.overflow_sub-i-in-loop-i
overflow_sub-i-in-loop-i c = omega (arith, earlier (goal.at.overflow_sub-i-in-loop-i c).In-loop-i, c.requires)

pub loop-i-smaller : goal.loop-i-smaller
loop-i-smaller c = omega (arith, earlier (goal.at.loop-i-smaller c).In-loop-i, c.requires)

pub returns : goal.returns
returns c =
    let s = c in
    let l = c.loop-i in
    let behind = parent_within s.args.level.now s.args.row s.args.up s.requires.1 _ l.invariant.1 in
    parent_here s.args.level.now s.args.row s.args.up s.requires.1 l.i l.invariant.0 behind
    c.loop-i-test.false
