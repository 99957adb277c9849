-- What the axes following-sibling and preceding-sibling mean: `later_on`, `on_later`; `earlier_on`, `on_earlier`.
-- Assumes nothing.
use Prim.Native.Nat.{ℕ, ◌<◌}
use mathlib.Core.Path.{◌≡◌, refl, sym, ◌∙◌}
use mathlib.Core.Bool.{true, ◌&&◌}
use mathlib.Core.List.{List}
use borrow.Author.Tests.{eqb-true, eq-eqb, ltb-true, lt-ltb}
use lib.Dec.{eqb, ltb}
use Rattle.tree.specs.Tree.{parent, siblings}
use Rattle.tree.specs.Axis.{on_axis}
use Rattle.tree.proofs.SoundLaws.{both, both_of}

-- c has a parent, and w has the same
pub record Siblings (level : List ℕ) (c w : ℕ) : Type 0 where
  pub some : 0 < parent level c
  pub same : parent level w ≡ parent level c

module _ (level : List ℕ) (c w : ℕ) where
  siblings_in : siblings level c w ≡ true → Siblings level c w
  unfolding siblings
  siblings_in t =
      let x = both (ltb 0 (parent level c)) (eqb (parent level w) (parent level c)) t in
      record { some = ltb-true 0 (parent level c) x.0; same = eqb-true (parent level w) (parent level c) x.1 }

  in_siblings : Siblings level c w → siblings level c w ≡ true
  unfolding siblings
  in_siblings h = both_of (lt-ltb 0 (parent level c) h.some) (eq-eqb (parent level w) (parent level c) h.same)

  axis_later : on_axis 10 level c w ≡ (siblings level c w && ltb c w)
  unfolding on_axis
  axis_later = refl

  axis_earlier : on_axis 11 level c w ≡ (siblings level c w && ltb w c)
  unfolding on_axis
  axis_earlier = refl

  pub later_on : on_axis 10 level c w ≡ true → Siblings level c w × (c < w)
  later_on t =
      let x = both (siblings level c w) (ltb c w) (sym axis_later ∙ t) in
      (siblings_in x.0, ltb-true c w x.1)

  pub on_later : Siblings level c w → c < w → on_axis 10 level c w ≡ true
  on_later h l = axis_later ∙ both_of (in_siblings h) (lt-ltb c w l)

  pub earlier_on : on_axis 11 level c w ≡ true → Siblings level c w × (w < c)
  earlier_on t =
      let x = both (siblings level c w) (ltb w c) (sym axis_earlier ∙ t) in
      (siblings_in x.0, ltb-true w c x.1)

  pub on_earlier : Siblings level c w → w < c → on_axis 11 level c w ≡ true
  on_earlier h l = axis_earlier ∙ both_of (in_siblings h) (lt-ltb w c l)
