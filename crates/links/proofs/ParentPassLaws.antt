-- The pass that finds every parent with the open rows by level: `open_start`, `open_next`, `open_done`, and what a
-- turn asks for: `open_high`, `open_small`. Assumes nothing.
use Prim.Native.Nat.{ℕ, suc, ◌+◌, ◌-◌, ◌<◌, ◌≤◌}
use mathlib.Core.Path.{◌≡◌, refl, sym, ap, subst, ◌∙◌}
use mathlib.Core.Logic.{⊎_elim}
use mathlib.Core.Bool.{Bool, cond}
use mathlib.Core.List.{List}
use native.Mathlib.Nat.{eq-or-lt_of_le, le_of_suc-le-suc}
use native.Mathlib.Numerals.{add-one}
use native.Mathlib.Omega.{arith}
use native.Mathlib.Decide.{ℕ_discrete}
use borrow.Author.Tests.{eq-eqb, ne_eqb}
use lib.Dec.{eqb}
use lib.ListN.{length, set, length-set, replicate, length-replicate}
use lib.Seq.{get_or-set_same, get_or-set_other}
use Rattle.tree.specs.Search.{nearest}
use Rattle.tree.specs.Table.{at}
use Rattle.tree.specs.Tree.{parent}
use Rattle.tree.specs.Rules.{Shape}
use Rattle.tree.proofs.SearchLaws.{nearest_le}
use Rattle.tree.proofs.TreeLaws.{parent_none}
use Rattle.scan.specs.OneRole.{Parents}
use Rattle.links.specs.Links.{above_of}

-- one more than the last row before i whose level is one less than d, or 0
unfoldable pub last_above : List ℕ → ℕ → ℕ → ℕ
last_above level d i = nearest (λ k. eqb (at level k + 1) d) i

module _ (level : List ℕ) where
  parent_last : (w d : ℕ) → at level w ≡ d → parent level w ≡ last_above level d w
  unfolding parent last_above
  parent_last w d e = ap (λ (x : ℕ). nearest (λ k. eqb (at level k + 1) x) w) e

  parent_first : parent level 0 ≡ 0
  unfolding parent nearest
  parent_first = refl

  last_here : (d i : ℕ) → at level i + 1 ≡ d → last_above level d (suc i) ≡ suc i
  unfolding last_above nearest
  last_here d i e = ap (λ (b : Bool). cond b (suc i) (last_above level d i)) (eq-eqb (at level i + 1) d e)

  last_before : (d i : ℕ) → (at level i + 1 ≡ d → ⊥) → last_above level d (suc i) ≡ last_above level d i
  unfolding last_above nearest
  last_before d i e = ap (λ (b : Bool). cond b (suc i) (last_above level d i)) (ne_eqb (at level i + 1) d e)

  last_le : (d i : ℕ) → last_above level d i ≤ i
  unfolding last_above
  last_le d i = nearest_le (λ k. eqb (at level k + 1) d) i

-- the rows before i have their parents, and path has the open rows: at k the last row of level k, up to the level
-- of the row before i
pub record Opened (level : List ℕ) (n : ℕ) (up path : List ℕ) (i : ℕ) : Type 0 where
  pub prev : ℕ
  pub next : i ≡ suc prev
  pub high : i ≤ n
  pub opens : (k : ℕ) → k ≤ at level prev → last_above level (suc k) i ≡ suc (at path k)
  pub parents : (w : ℕ) → w < i → at up w ≡ parent level w
  pub long : n ≤ length up
  pub wide : length path ≡ 64

pub open_done : {level : List ℕ} {n : ℕ} {up path : List ℕ} {i : ℕ} → Opened level n up path i → n ≤ i
    → Parents level n up
open_done o l = record { within = o.long; parents = λ w a. o.parents w (omega arith) }

module _ {size level : List ℕ} {n : ℕ} (s : Shape size level n) where
  pub open_start : (up : List ℕ) → n ≤ length up → Opened level n (set up 0 0) (replicate 64 0) 1
  open_start up l =
      let z : at level 0 ≡ 0 = (s.levels 0 s.some).root refl in
      record {
        prev = 0;
        next = refl;
        high = s.some;
        opens = λ k a.
            let e : k ≡ 0 = omega arith in
            subst (λ (x : ℕ). last_above level (suc x) 1 ≡ suc (at (replicate 64 0) x)) (sym e)
            (last_here level 1 0 (omega arith));
        parents = λ w a.
            let e : w ≡ 0 = omega arith in
            subst (λ (x : ℕ). at (set up 0 0) x ≡ parent level x) (sym e)
            (get_or-set_same up 0 0 0 (omega (arith, s.some)) ∙ sym (parent_first level));
        long = omega (arith, length-set up 0 0);
        wide = length-replicate {A = ℕ} 64 0;
      }

  module _ {up path : List ℕ} {i : ℕ} (o : Opened level n up path i) (less : i < n) where
    -- the row's level, and one more than its parent
    abbrev L : ℕ
    L = at level i

    abbrev P : ℕ
    P = above_of path L

    pub open_high : L < 64
    open_high = omega (arith, (s.levels i less).low)

    level_step : L ≤ at level o.prev + 1
    level_step =
        let z : i - 1 ≡ o.prev = omega (arith, o.next) in
        let q : at level (i - 1) ≡ at level o.prev = ap (at level) z in
        omega (arith, (s.levels i less).step (omega (arith, o.next)))

    parent_open : 0 < L → last_above level (suc (L - 1)) i ≡ suc (at path (L - 1))
    parent_open p = o.opens (L - 1) (omega (arith, level_step))

    pub open_small : 0 < L → at path (L - 1) < i
    open_small p = omega (arith, last_le level (suc (L - 1)) i, parent_open p)

    parent_here : P ≡ parent level i
    unfolding above_of
    parent_here = go (ℕ_discrete L 0)
      where
        go : Dec (L ≡ 0) → P ≡ parent level i
        go (yes z) =
            ap (λ (b : Bool). cond b 0 (at path (L - 1) + 1)) (eq-eqb L 0 z) ∙ sym (parent_none level i z)
        go (no z) =
            let p : 0 < at level i = omega arith in
            ap (λ (b : Bool). cond b 0 (at path (L - 1) + 1)) (ne_eqb L 0 z)
            ∙ add-one (at path (L - 1))
            ∙ sym (parent_open p)
            ∙ sym (parent_last level i (suc (L - 1)) (omega arith))

    opens_next : (k : ℕ) → k ≤ L → last_above level (suc k) (suc i) ≡ suc (at (set path L i) k)
    opens_next k a = ⊎_elim
        (λ (q : k ≡ L).
        last_here level (suc k) i (omega arith)
        ∙ ap suc (sym (ap (at (set path L i)) q ∙ get_or-set_same path L i 0 (omega (arith, open_high, o.wide)))))
        (λ (q : k < L).
        last_before level (suc k) i (λ (e : L + 1 ≡ suc k). omega arith)
        ∙ o.opens k (omega (arith, level_step))
        ∙ ap suc (sym (get_or-set_other path L k i 0 (λ (e : k ≡ L). omega arith))))
        (eq-or-lt_of_le a)

    parents_next : (w : ℕ) → w ≤ i → at (set up i P) w ≡ parent level w
    parents_next w a = ⊎_elim
        (λ (q : w ≡ i).
        ap (at (set up i P)) q
        ∙ get_or-set_same up i P 0 (omega (arith, o.long))
        ∙ parent_here
        ∙ ap (parent level) (sym q))
        (λ (q : w < i). get_or-set_other up i w P 0 (λ (e : w ≡ i). omega arith) ∙ o.parents w q)
        (eq-or-lt_of_le a)

    opened_next : Opened level n (set up i P) (set path L i) (i + 1)
    opened_next = record {
      prev = i;
      next = add-one i;
      high = omega arith;
      opens = λ k a. ap (last_above level (suc k)) (add-one i) ∙ opens_next k a;
      parents = λ w a. parents_next w (le_of_suc-le-suc (rw add-one at a));
      long = omega (arith, o.long, length-set up i P);
      wide = length-set path L i ∙ o.wide;
    }

    pub open_next : {r : ℕ} → r ≡ above_of path (at level i) → Opened level n (set up i r) (set path L i) (i + 1)
    open_next e = subst (λ (x : ℕ). Opened level n (set up i x) (set path L i) (i + 1)) (sym e) opened_next
