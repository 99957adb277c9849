-- `sizes::raise` meets its contract: a root has no row above it, any other the rows from its parent up. Assumes
-- nothing.
use mathlib.Core.Path.{◌≡◌, subst, ◌∙◌}
use Prim.Native.Nat.{ℕ, ◌+◌}
use native.Mathlib.Omega.{arith}
use Rattle.tree.specs.Tree.{ancestor}
use Rattle.tree.specs.Edit.{changed}
use Rattle.tree.specs.declared.Child.{Child}
use Rattle.tree.specs.declared.Located.TheVariants.{Root, Under}
use Rattle.sizes.specs.Upward.{Stands}
use Rattle.sizes.proofs.StandsLaws.{row_asks, root_raised}
use Rattle.sizes.proofs.StandsLaws.{child_resizable, child_resized, child_asks, child_raised}
use Rattle.sizes.proofs.raise.Goals as goal
use Rattle.sizes.proofs.raise.Goals.{After-resize_up, Start}

-- what was found, by its case
root : (s : Start) (r : ℕ) → s.args.located ≡ Root r
    → Stands s.args.size.now s.args.level.now s.args.count (Root r)
root s r e = subst (Stands s.args.size.now s.args.level.now s.args.count) e s.requires.0

child : (s : Start) (c : Child) → s.args.located ≡ Under c
    → Stands s.args.size.now s.args.level.now s.args.count (Under c)
child s c e = subst (Stands s.args.size.now s.args.level.now s.args.count) e s.requires.0

pub enlarge-requires : goal.enlarge-requires
enlarge-requires c =
    let (inside, small) = row_asks (root (goal.at.enlarge-requires c).Start _ c.in-Root.is) in
    (inside, small, c.requires.1)

pub resize_up-requires : goal.resize_up-requires
resize_up-requires c =
    child_resizable _ (child (goal.at.resize_up-requires c).Start _ c.in-Under.is) c.args.by 0 c.requires.1
    (λ i e. omega arith)

-- the sizes above a row under a parent, from its parent up
above : (c : After-resize_up) → c.resize_up.new.size
    ≡ changed (λ i. ancestor c.args.level.now i
    c.in-Under.child.row)
    (λ z. z + c.args.by)
    c.args.size.now
above c =
    c.resize_up.ensures
    ∙ child_resized _ (subst (Stands c.args.size.now c.args.level.now c.args.count) c.in-Under.is c.requires.0)
    c.args.by 0 _ (λ z. omega arith)

pub enlarge-requires-in-Under : goal.enlarge-requires-in-Under
enlarge-requires-in-Under c =
    let (inside, small) =
    child_asks _ (child (goal.at.enlarge-requires-in-Under c).Start _ c.in-Under.is) c.args.by
    (above (goal.at.enlarge-requires-in-Under c).After-resize_up) in
    (inside, small, c.requires.1)

pub returns-in-Root : goal.returns-in-Root
returns-in-Root c =
    let e = c.in-Root.is in rw e (c.enlarge.ensures ∙ root_raised _ c.args.by
    (root (goal.at.returns-in-Root c).Start _ e))

pub returns-in-Under : goal.returns-in-Under
returns-in-Under c =
    let e = c.in-Under.is in rw e (c.enlarge-in-Under.ensures ∙ child_raised _
    (child (goal.at.returns-in-Under c).Start _ e) c.args.by (above (goal.at.returns-in-Under c).After-resize_up))
