-- The next size rows after a row, in rows whose levels and sizes make trees. They are under it, `in_under`, and what is
-- under it is among them, `under_in`; those of a row among them end no later, `nested`. A child is one of them that is
-- one level deeper: `child_within`, `child_is`. Assumes nothing.
use mathlib.Core.Path.{◌≡◌, sym}
use mathlib.Core.List.{List}
use Prim.Native.Nat.{ℕ, suc, ◌+◌, ◌<◌, ◌≤◌}
use native.Mathlib.Nat.{le_refl}
use native.Mathlib.Omega.{arith}
use native.Mathlib.Decide.{ℕ_discrete}
use Rattle.tree.specs.Table.{at}
use Rattle.tree.specs.Tree.{parent}
use Rattle.tree.specs.Rules.{Shape}
use Rattle.tree.proofs.TreeLaws.{Under, parent_is, parent_below, under_parent, under_trans, ancestor_under}
use Rattle.tree.proofs.SoundLaws.{shape_steps, shape_descendants, shape_fits}

module _ {size level : List ℕ} {n : ℕ} (s : Shape size level n) where
  pub in_under : (c w : ℕ) → c < n → c < w → w ≤ c + at size c → Under level c w
  in_under c w m a b =
      let l : w < n = omega (arith, shape_fits s c m) in
      (ancestor_under level n (shape_steps s) c w l).0 ((shape_descendants s c w m l).1 (a, b))

  pub under_in : (c w : ℕ) → c < n → w < n → Under level c w → w ≤ c + at size c
  under_in c w m l u = ((shape_descendants s c w m l).0 ((ancestor_under level n (shape_steps s) c w l).1 u)).1

  pub nested : (c w : ℕ) → c < n → c < w → w ≤ c + at size c → w + at size w ≤ c + at size c
  nested c w m a b =
      let l : w < n = omega (arith, shape_fits s c m) in
      let last : ℕ = w + at size w in
      elim (ℕ_discrete (at size w) 0) [
        | yes z ↦ omega arith
        | no z ↦
            under_in c last m (shape_fits s w l)
            (under_trans level n (shape_steps s) c w last (in_under c w m a b)
            (in_under w last l (omega arith) (le_refl last)))
      ]

  pub child_within : (p w : ℕ) → w < n → parent level w ≡ suc p → w ≤ p + at size p
  child_within p w l e =
      let b : p < w = parent_below level w p e in
      under_in p w (omega arith) l (under_parent level n (shape_steps s) w p l e)

  pub child_is : (p w : ℕ) → p < n → p < w → w ≤ p + at size p → at level w ≡ at level p + 1 → parent level w ≡ suc p
  child_is p w m a b e =
      let u : Under level p w = in_under p w m a b in
      parent_is level w p (record {
        earlier = a;
        less = sym e;
        closest = λ k x y q. omega (arith, u.deeper k x (omega arith));
      })
