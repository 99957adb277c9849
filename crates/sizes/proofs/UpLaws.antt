-- The way up that changes sizes: `up_start`; what a turn asks for, `up_small`, `up_has`, `up_inside`, `up_asks`;
-- `up_turn`, `up_end`. Assumes nothing.
use mathlib.Core.Path.{◌≡◌, refl, sym, ◌∙◌}
use mathlib.Core.Bool.{true}
use mathlib.Core.List.{List}
use Prim.Native.Nat.{ℕ, suc, ◌+◌, ◌-◌, ◌≤◌, ◌<◌}
use native.Mathlib.Nat.{le_refl}
use native.Mathlib.Omega.{arith}
use borrow.Author.Tests.{eq-eqb}
use lib.Dec.{eqb}
use lib.ListN.{length, set, length-set}
use lib.Seq.{get_or-set_other}
use Rattle.tree.specs.Table.{at}
use Rattle.tree.specs.Tree.{parent, ancestor}
use Rattle.tree.specs.Edit.{changed}
use Rattle.tree.proofs.TreeLaws.{parent_below, parent_less}
use Rattle.tree.proofs.SoundLaws.{shape_fits, either_left, either_right}
use Rattle.tree.proofs.LevelLaws.{ancestor_step, has_parent, not_own, root_alone}
use Rattle.tree.proofs.ColumnLaws.{changed_none, changed_ext, changed_set}
use Rattle.sizes.specs.Upward.{up_from, resized, Resizable}

-- row i and those above it are still to be changed in a column that held size₀, where row r and those above it were to
-- be at the start; i has the level up
pub record Going (level : List ℕ) (n : ℕ) (size₀ : List ℕ) (r more less : ℕ) (size : List ℕ) (i up : ℕ) : Type 0 where
  pub in_use : i < n
  pub own : at level i ≡ up
  pub still : (j : ℕ) → j ≤ i → at size j ≡ at size₀ j
  pub holds : (j : ℕ) → up_from level i j ≡ true → less ≤ at size₀ j
  pub same : resized level i more less size ≡ resized level r more less size₀
  pub long : length size ≡ length size₀

module _ {level : List ℕ} {n : ℕ} {size₀ : List ℕ} {r more less : ℕ} (h : Resizable size₀ level n r more less) where
  pub up_start : Going level n size₀ r more less size₀ r (at level r)
  up_start = record {
    in_use = h.in_use;
    own = refl;
    still = λ j l. refl;
    holds = h.holds;
    same = refl;
    long = refl;
  }

  module _ {size : List ℕ} {i up : ℕ} (g : Going level n size₀ r more less size i up) where
    -- what a turn reads: a size in bounds that has what is taken
    pub up_small : at size i ≤ 4096
    up_small = omega (arith, g.still i (le_refl i), shape_fits h.shape i g.in_use, h.shape.few)

    pub up_has : less ≤ at size i
    up_has = omega (arith, g.still i (le_refl i), g.holds i (either_left _ (eq-eqb i i refl)))

    pub up_inside : i < length size
    up_inside = omega (arith, g.in_use, g.long, h.shape.in_size)

    -- what the search for its parent asks for
    pub up_asks : 0 < up → (i < length level) × (at level i ≡ up - 1 + 1) × (0 < parent level i)
    up_asks l =
        let (p, e) = has_parent h.shape i g.in_use (omega (arith, g.own)) in
        (omega (arith, g.in_use, h.shape.in_level), omega (arith, g.own), omega (arith, e))

    -- row i itself, then those above it
    up_first : changed (λ j. ancestor level j i) (λ z. z + more - less) (set size i (at size i + more - less))
        ≡ resized level r more less size₀
    up_first =
        changed_set (λ j. ancestor level j i) (λ z. z + more - less) size i (not_own h.shape i g.in_use)
        ∙ g.same

    pub up_turn : (p : ℕ) → parent level i ≡ suc p
        → Going level n size₀ r more less (set size i (at size i + more - less)) p (up - 1)
    up_turn p e =
        let b : p < i = parent_below level i p e in
        let q : (j : ℕ) → ancestor level j i ≡ up_from level p j = λ j. ancestor_step h.shape j i p g.in_use e in
        record {
          in_use = omega (arith, g.in_use);
          own = omega (arith, parent_less level i p e, g.own);
          still = λ j l. get_or-set_other size i j _ 0 (λ (z : j ≡ i). omega arith) ∙ g.still j (omega arith);
          holds = λ j z. g.holds j (either_right (eqb j i) (q j ∙ z));
          same = changed_ext _ _ _ _ _ (λ j. sym (q j)) (λ z. refl) ∙ up_first;
          long = length-set size i _ ∙ g.long;
        }

    pub up_end : up ≡ 0 → set size i (at size i + more - less) ≡ resized level r more less size₀
    up_end z =
        sym (changed_none (λ j. ancestor level j i) _ _
        (root_alone h.shape i g.in_use (g.own ∙ z)))
        ∙ up_first
