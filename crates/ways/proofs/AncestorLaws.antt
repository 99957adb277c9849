-- What the axes ancestor and ancestor-or-self mean: `axis_ancestor`, `axis_path`. Assumes nothing.
use Prim.Native.Nat.{ℕ, suc}
use mathlib.Core.Path.{◌≡◌, refl}
use mathlib.Core.List.{List}
use Rattle.tree.specs.Tree.{ancestor}
use Rattle.tree.specs.Axis.{on_axis}
use Rattle.ways.specs.Above.{on_path}

module _ (level : List ℕ) (c w : ℕ) where
  pub axis_ancestor : on_axis 6 level c w ≡ ancestor level w c
  unfolding on_axis
  axis_ancestor = refl

  pub axis_path : on_axis 7 level c w ≡ on_path level (suc c) w
  unfolding on_axis on_path
  axis_path = refl
