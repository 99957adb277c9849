-- The kept count on axes 8 and 9, where one pair per role and tree remains, that on the least row: the turns of a pass
-- that counts the contexts whose root is not that of the context before. `trees_start`, `trees_count`, `trees_skip`,
-- `trees_done`. Where first and last have the same root there is one: `trees_one`. Assumes nothing.
use mathlib.Core.Path.{◌≡◌, sym, ap, subst, ◌∙◌}
use mathlib.Core.Logic.{inl, inr, ⊎_elim}
use mathlib.Core.Bool.{Bool, true, false, ◌&&◌, and-false}
use mathlib.Core.List.{List}
use Prim.Native.Nat.{ℕ, zero, suc, ◌+◌, ◌-◌, ◌<◌, ◌≤◌}
use native.Mathlib.Nat.{le_refl, le_antisymm, eq-or-lt_of_le}
use native.Mathlib.Omega.{arith}
use borrow.Author.Tests.{lt-ltb, le-ltb, ne_eqb}
use lib.Dec.{ltb}
use lib.ListN.{length}
use Rattle.tree.specs.Table.{at}
use Rattle.tree.specs.Tree.{root, same_tree}
use Rattle.tree.specs.Kept.{drops}
use Rattle.tree.proofs.TreeLaws.{less?}
use Rattle.tree.proofs.SoundLaws.{both_of}
use Rattle.tree.proofs.RootLaws.{is_root, same_tree_lem}
use Rattle.scan.specs.declared.trees.Trees.{Trees}
use Rattle.kept_rows.specs.KeptOf.{kept_of, KeptIn}
use Rattle.scan.specs.OneRole.{Roots}
use Rattle.links.specs.Links.{side_axis}
use Rattle.links.proofs.LinkAxisLaws.{side_of}
use Rattle.scan.proofs.RangeLaws.{contexts_rise}
use Rattle.kept_rows.proofs.KeptOfLaws.{kept_row, kept_below, kept_rows, row_none, row_dropped, row_kept}
use Rattle.kept_rows.proofs.KeptOfLaws.{below_skip, below_next, below_none}

-- axes 8 and 9
pub side_range : (a : ℕ) → 8 ≤ a → a < 10 → side_axis a ≡ true
side_range a l m = side_of a (⊎_elim (λ (e : 8 ≡ a). inl (sym e)) (λ (k : 8 < a). inr (omega arith)) (eq-or-lt_of_le l))

-- of the first i contexts, the rows kept up to the last of them are counted
pub record Counted (level cs : List ℕ) (kept i : ℕ) : Type 0 where
  pub some : 1 ≤ i
  pub place : i ≤ length cs
  pub few : kept ≤ i
  pub counted : kept ≡ kept_below 8 level cs (at cs (i - 1) + 1)

module _ {trees : Trees} {cs top : List ℕ} (pre : KeptIn trees cs)
    (roots : Roots trees.level.now trees.count top) where
  -- a row that is not before it does not drop it, nor does one of another tree
  not_before : (c d : ℕ) → c ≤ d → drops 8 trees.level.now c d ≡ false
  unfolding drops
  not_before c d l =
      ap (λ (b : Bool). same_tree trees.level.now c d && b) (le-ltb d c l) ∙ and-false (same_tree trees.level.now c d)

  apart : (c d : ℕ) → c < trees.count → d < trees.count → at top d < at top c → drops 8 trees.level.now c d ≡ false
  unfolding drops same_tree
  apart c d m k l =
      ap (λ (b : Bool). b && ltb d c)
      (ne_eqb (root trees.level.now c) (root trees.level.now d) (λ e. omega (arith, roots.roots c m, roots.roots d k)))

  -- an earlier row of its tree does
  dropped : (c d : ℕ) → c < trees.count → d < trees.count → at top c ≡ at top d → d < c
      → drops 8 trees.level.now c d ≡ true
  unfolding drops
  dropped c d m k e l =
      both_of ((same_tree_lem trees.level.now c d).1 (roots.roots c m ∙ ap suc e ∙ sym (roots.roots d k)))
      (lt-ltb d c l)

  -- later rows have no earlier root
  root_rise : (c d : ℕ) → c < trees.count → d < trees.count → c ≤ d → at top c ≤ at top d
  root_rise c d m k l =
      let a = is_root trees.level.now c (at top c) (roots.roots c m) in
      let b = is_root trees.level.now d (at top d) (roots.roots d k) in
      let e = a.earlier in
      ⊎_elim (λ (x : at top d < at top c). absurd (b.closest (at top c) x (omega arith) a.top))
      (λ (x : at top c ≤ at top d). x) (less? (at top d) (at top c))

  in_use : (j : ℕ) → j < length cs → at cs j < trees.count
  in_use = pre.contexts.inside

  pub trees_start : 0 < length cs → Counted trees.level.now cs 1 1
  trees_start l = record {
    some = omega arith;
    place = omega arith;
    few = omega arith;
    counted = sym (
        below_next 8 trees.level.now cs (at cs 0) (row_kept 8 trees.level.now cs 0 l
        (λ j m. not_before (at cs 0) (at cs j) (contexts_rise pre.contexts 0 j (omega arith) m)))
        ∙ ap (λ (k : ℕ). k + 1) (below_none 8 trees.level.now cs (at cs 0) (λ w a. row_none 8 trees.level.now cs w
        (λ j m e. omega (arith, contexts_rise pre.contexts 0 j (omega arith) m)))));
  }

  module _ {kept i : ℕ} (s : Counted trees.level.now cs kept i) where
    last : i - 1 < length cs
    last = omega (arith, s.some, s.place)

    pub trees_done : length cs ≤ i → kept ≡ kept_of 8 trees.level.now cs
    trees_done l =
        s.counted
        ∙ sym (below_skip 8 trees.level.now cs (at cs (i - 1) + 1) trees.count (omega (arith, in_use (i - 1) last))
        (λ w a b. row_none 8 trees.level.now cs w
        (λ j m q. omega (arith, contexts_rise pre.contexts j (i - 1) (omega arith) last))))
        ∙ sym (kept_rows 8 trees.level.now cs trees.count pre.contexts.inside)

    module _ (l : i < length cs) where
      rise : at cs (i - 1) ≤ at cs i
      rise = contexts_rise pre.contexts (i - 1) i (omega arith) l

      -- no row between the last context and the next is kept
      between : (w : ℕ) → at cs (i - 1) < w → w < at cs i → kept_row 8 trees.level.now cs w ≡ false
      between w a b = row_none 8 trees.level.now cs w (λ j m e. ⊎_elim
          (λ (k : j < i). omega (arith, contexts_rise pre.contexts j (i - 1) (omega arith) last))
          (λ (k : i ≤ j). omega (arith, contexts_rise pre.contexts i j k m))
          (less? j i))

      on : {more : ℕ} → more ≤ i + 1 → more ≡ kept_below 8 trees.level.now cs (at cs i + 1)
          → Counted trees.level.now cs more (i + 1)
      on a e = record {
        some = omega arith;
        place = omega arith;
        few = a;
        counted = e ∙ sym (ap (λ (k : ℕ). kept_below 8 trees.level.now cs (at cs k + 1))
            (let z : i + 1 - 1 ≡ i = omega arith in z));
      }

      -- the next context begins a tree
      pub trees_count : at top (at cs (i - 1)) < at top (at cs i) → Counted trees.level.now cs (kept + 1) (i + 1)
      trees_count h =
          let r = rise in
          let less : at cs (i - 1) < at cs i = ⊎_elim
          (λ (e : at cs (i - 1) ≡ at cs i). let z = ap (at top) e in absurd (omega arith))
          (λ (x : at cs (i - 1) < at cs i). x) (eq-or-lt_of_le rise) in
          on (omega (arith, s.few)) (
          ap (λ (k : ℕ). k + 1) (s.counted
          ∙ sym (below_skip 8 trees.level.now cs (at cs (i - 1) + 1) (at cs i) (omega arith)
          (λ w a b. between w (omega arith) b)))
          ∙ sym (below_next 8 trees.level.now cs (at cs i) (row_kept 8 trees.level.now cs i l (λ j m. ⊎_elim
          (λ (k : j < i). apart (at cs i) (at cs j) (in_use i l) (in_use j m)
          (omega (
            arith,
            root_rise (at cs j) (at cs (i - 1)) (in_use j m) (in_use (i - 1) last)
                (contexts_rise pre.contexts j (i - 1) (omega arith) last),
          )))
          (λ (k : i ≤ j). not_before (at cs i) (at cs j) (contexts_rise pre.contexts i j k m))
          (less? j i)))))

      -- it is the same row, or another of the same tree
      pub trees_skip : at top (at cs i) ≤ at top (at cs (i - 1)) → Counted trees.level.now cs kept (i + 1)
      trees_skip h =
          let r = rise in
          let same : at top (at cs i) ≡ at top (at cs (i - 1)) =
          le_antisymm h (root_rise (at cs (i - 1)) (at cs i) (in_use (i - 1) last) (in_use i l) rise) in
          on (omega (arith, s.few)) (s.counted ∙ sym (below_skip 8 trees.level.now cs (at cs (i - 1) + 1) (at cs i + 1)
          (omega arith) (λ w a b. ⊎_elim
          (λ (e : w ≡ at cs i). row_dropped 8 trees.level.now cs w (i - 1) last
          (ap (λ (x : ℕ). drops 8 trees.level.now x (at cs (i - 1))) e
          ∙ dropped (at cs i) (at cs (i - 1)) (in_use i l) (in_use (i - 1) last) same (omega arith)))
          (λ (x : w < at cs i). between w (omega arith) x)
          (eq-or-lt_of_le (let z : w ≤ at cs i = omega arith in z)))))

  -- first and last are in one tree, and so are those between
  pub trees_one : 0 < length cs → at top (at cs 0) ≡ at top (at cs (length cs - 1)) → 1 ≡ kept_of 8 trees.level.now cs
  trees_one l e = trees_done (all (length cs) (omega arith) (le_refl _)) (le_refl _)
    where
      all : (i : ℕ) → 1 ≤ i → i ≤ length cs → Counted trees.level.now cs 1 i
      all zero a b = absurd (omega arith)
      all (suc zero) a b = trees_start l
      all (suc (suc i)) a b =
          let m : suc i < length cs = b in
          let u = root_rise (at cs 0) (at cs i) (in_use 0 l) (in_use i (omega arith))
          (contexts_rise pre.contexts 0 i (omega arith) (omega arith)) in
          let h : length cs - 1 < length cs = omega arith in
          let v = root_rise (at cs (suc i)) (at cs (length cs - 1)) (in_use (suc i) m) (in_use (length cs - 1) h)
          (contexts_rise pre.contexts (suc i) (length cs - 1) (omega arith) h) in
          let z : suc i - 1 ≡ i = omega arith in
          subst (Counted trees.level.now cs 1) (let y : suc i + 1 ≡ suc (suc i) = omega arith in y)
          (trees_skip (all (suc i) (omega arith) (omega arith)) m
          (rw z (omega arith)))

  -- the roots of the contexts are read
  pub tops_in : (j : ℕ) → j < length cs → at cs j < length top
  tops_in j l = omega (arith, in_use j l, roots.within)
