-- The pass that finds the root of every row: `rooted_start`, `rooted_next`, `rooted_done`. One tree has row 0's,
-- `rooted_lone`, and that is what the column has at first, `up_zeros`. Assumes nothing.
use Prim.Native.Nat.{ℕ, zero, suc, ◌+◌, ◌<◌, ◌≤◌}
use mathlib.Core.Path.{◌≡◌, refl, sym, ap, ◌∙◌}
use mathlib.Core.Logic.{⊎_elim}
use mathlib.Core.Bool.{Bool, true, false, cond}
use mathlib.Core.List.{List}
use native.Mathlib.Nat.{eq-or-lt_of_le, le_of_suc-le-suc}
use native.Mathlib.Numerals.{add-one}
use native.Mathlib.Omega.{arith}
use borrow.Author.Tests.{eqb-true, eqb-false}
use lib.Dec.{eqb}
use lib.ListN.{length, set, length-set, replicate, length-replicate, get_or-replicate}
use lib.Seq.{get_or-set_same, get_or-set_other}
use Rattle.tree.specs.Search.{nearest}
use Rattle.tree.specs.Table.{at}
use Rattle.tree.specs.Tree.{root}
use Rattle.tree.specs.Rules.{Shape}
use Rattle.tree.proofs.RootLaws.{own_root, tree_range}
use Rattle.scan.specs.OneRole.{Roots}
use Rattle.links.specs.Links.{Zeros}

-- the column as it is made
pub up_zeros : Zeros (replicate 4096 0)
up_zeros = record { long = length-replicate {A = ℕ} 4096 0; zero = λ w l. get_or-replicate 4096 w 0 0 l }

-- the rows before i have their roots, and last is that of the row before i
pub record Rooted (level : List ℕ) (n : ℕ) (up : List ℕ) (last i : ℕ) : Type 0 where
  pub long : n ≤ length up
  pub high : i ≤ n
  pub inside : last ≤ i
  pub roots : (w : ℕ) → w < i → root level w ≡ suc (at up w)
  pub before : (k : ℕ) → i ≡ suc k → root level k ≡ suc last

pub rooted_done : {level : List ℕ} {n : ℕ} {up : List ℕ} {last i : ℕ} → Rooted level n up last i → n ≤ i
    → Roots level n up
rooted_done o l = record { within = o.long; roots = λ w a. o.roots w (omega arith) }

-- a row that is no root has the root of the row before
root_later : (level : List ℕ) (k : ℕ) → eqb (at level (suc k)) 0 ≡ false → root level (suc k) ≡ root level k
unfolding root nearest
root_later level k e = ap (λ (b : Bool). cond b (suc (suc k)) (root level k)) e

module _ {size level : List ℕ} {n : ℕ} (s : Shape size level n) where
  -- where row 0 and its descendants are all rows, zeros are the roots
  pub rooted_lone : (up : List ℕ) → Zeros up → at size 0 + 1 ≡ n → Roots level n up
  rooted_lone up z e = record {
    within = omega (arith, z.long, s.few);
    roots = λ w a. (tree_range s 0 w s.some a ((s.levels 0 s.some).root refl)).1 (omega arith, omega arith)
        ∙ ap suc (sym (z.zero w (omega (arith, s.few))));
  }

  pub rooted_start : (up : List ℕ) → n ≤ length up → Rooted level n up 0 0
  rooted_start up l = record {
    long = l;
    high = omega arith;
    inside = omega arith;
    roots = λ w a. absurd (omega arith);
    before = λ k e. absurd (omega arith);
  }

  module _ {up : List ℕ} {last i : ℕ} (o : Rooted level n up last i) (less : i < n) {r : ℕ}
      (e : r ≡ cond (eqb (at level i) 0) i last) where
    here : (i : ℕ) → ((k : ℕ) → i ≡ suc k → root level k ≡ suc last) → (b : Bool) → eqb (at level i) 0 ≡ b
        → root level i ≡ suc (cond b i last)
    here i h true q = own_root level i (eqb-true _ _ q)
    here zero h false q = absurd (eqb-false _ _ q ((s.levels 0 s.some).root refl))
    here (suc k) h false q = root_later level k q ∙ h k refl

    root_here : root level i ≡ suc r
    root_here = here i o.before (eqb (at level i) 0) refl ∙ ap suc (sym e)

    small : (b : Bool) → cond b i last ≤ i
    small true = omega arith
    small false = o.inside

    pub root_small : r ≤ i
    root_small = omega (arith, small (eqb (at level i) 0))

    pub rooted_next : Rooted level n (set up i r) r (i + 1)
    rooted_next = record {
      long = omega (arith, o.long, length-set up i r);
      high = omega arith;
      inside = omega (arith, root_small);
      roots = λ w a. ⊎_elim
          (λ (q : w ≡ i). ap (root level) q ∙ root_here
          ∙ ap suc (sym (ap (at (set up i r)) q ∙ get_or-set_same up i r 0 (omega (arith, o.long)))))
          (λ (q : w < i). o.roots w q ∙ ap suc (sym (get_or-set_other up i w r 0 (λ (z : w ≡ i). omega arith))))
          (eq-or-lt_of_le (le_of_suc-le-suc (rw add-one at a)));
      before = λ k q. ap (root level) (let z : k ≡ i = omega arith in z) ∙ root_here;
    }
