-- The rows that a role keeps where the next context decides: `pass-..` are the turns of the pass that counts them, on
-- any axis; `inner-..` where ancestors of contexts are dropped, `own-..` where none is. Fewer than two contexts all
-- remain: `kept_few`. Assumes nothing.
use mathlib.Core.Path.{◌≡◌, refl, sym, ap, ◌∙◌}
use mathlib.Core.Logic.{◌⊎◌, inl, inr, ⊎_elim}
use mathlib.Core.Bool.{Bool, true, false, cond, ◌&&◌, ◌||◌, and-false}
use mathlib.Core.List.{List}
use Prim.Native.Nat.{ℕ, ◌+◌, ◌-◌, ◌<◌, ◌≤◌}
use native.Mathlib.Nat.{le_refl, le_antisymm, eq-or-lt_of_le}
use native.Mathlib.Omega.{arith}
use borrow.Author.Tests.{le-ltb}
use lib.Dec.{eqb}
use lib.ListN.{length}
use Rattle.tree.specs.Table.{at}
use Rattle.tree.specs.Tree.{ancestor, same_tree}
use Rattle.tree.specs.Kept.{drops}
use Rattle.tree.proofs.TreeLaws.{less?}
use Rattle.tree.proofs.SoundLaws.{shape_descendants}
use Rattle.scan.specs.declared.trees.Trees.{Trees}
use Rattle.kept_rows.specs.KeptOf.{kept_of, KeptIn}
use Rattle.scan.proofs.RangeLaws.{contexts_rise}
use Rattle.kept_rows.proofs.KeptOfLaws.{kept_row, kept_below, kept_rows, row_none, row_dropped, row_kept}
use Rattle.kept_rows.proofs.KeptOfLaws.{below_skip, below_next, below_none, kept_none}
use Rattle.kept_rows.proofs.KeptOuterLaws.{ancestor_not_before, ancestor_not_past}

-- ── the next context decides ──
-- of the first i contexts the last is counted, and the rows kept below it
pub record Passed (axis : ℕ) (level cs : List ℕ) (kept i : ℕ) : Type 0 where
  pub some : 1 ≤ i
  pub place : i ≤ length cs
  pub few : kept ≤ i
  pub counted : kept ≡ kept_below axis level cs (at cs (i - 1)) + 1

module _ (axis : ℕ) {trees : Trees} {cs : List ℕ} (pre : KeptIn trees cs) where
  -- no row below the first context is one
  pub pass_start : 0 < length cs → Passed axis trees.level.now cs 1 1
  pass_start l = record {
    some = omega arith;
    place = omega arith;
    few = omega arith;
    counted = omega (
      arith,
      below_none axis trees.level.now cs (at cs 0) (λ w a. row_none axis trees.level.now cs w
          (λ j m e. omega (arith, contexts_rise pre.contexts 0 j (omega arith) m))),
    );
  }

  module _ {kept i : ℕ} (s : Passed axis trees.level.now cs kept i) where
    -- no row above the last context is one, and that one is kept
    pub pass_done : length cs ≤ i → kept_row axis trees.level.now cs (at cs (i - 1)) ≡ true
        → kept ≡ kept_of axis trees.level.now cs
    pass_done l e =
        let k : i - 1 < length cs = omega (arith, s.some, s.place) in
        s.counted
        ∙ sym (below_next axis trees.level.now cs (at cs (i - 1)) e)
        ∙ sym (below_skip axis trees.level.now cs (at cs (i - 1) + 1) trees.count
        (omega (arith, pre.contexts.inside (i - 1) k))
        (λ w a b. row_none axis trees.level.now cs w
        (λ j m q. omega (arith, contexts_rise pre.contexts j (i - 1) (omega arith) k))))
        ∙ sym (kept_rows axis trees.level.now cs trees.count pre.contexts.inside)

    module _ (l : i < length cs) where
      -- no row between the last context and the next is one
      between : (w : ℕ) → at cs (i - 1) < w → w < at cs i → kept_row axis trees.level.now cs w ≡ false
      between w a b = row_none axis trees.level.now cs w (λ j m e. ⊎_elim
          (λ (k : j < i). omega (arith, contexts_rise pre.contexts j (i - 1) (omega arith) (omega arith)))
          (λ (k : i ≤ j). omega (arith, contexts_rise pre.contexts i j k m))
          (less? j i))

      -- the rows kept below the next context are counted
      pass_on : {more : ℕ} → more ≤ i + 1 → more ≡ kept_below axis trees.level.now cs (at cs i) + 1
          → Passed axis trees.level.now cs more (i + 1)
      pass_on a e = record {
        some = omega arith;
        place = omega arith;
        few = a;
        counted = e ∙ sym (ap (λ (k : ℕ). kept_below axis trees.level.now cs (at cs k) + 1)
            (let z : i + 1 - 1 ≡ i = omega arith in z));
      }

      -- the last context is kept
      pub pass_count : at cs (i - 1) < at cs i → kept_row axis trees.level.now cs (at cs (i - 1)) ≡ true
          → Passed axis trees.level.now cs (kept + 1) (i + 1)
      pass_count a e = pass_on (omega (arith, s.few)) (ap (λ (k : ℕ). k + 1) (
          s.counted
          ∙ sym (below_next axis trees.level.now cs (at cs (i - 1)) e)
          ∙ sym (below_skip axis trees.level.now cs (at cs (i - 1) + 1) (at cs i) (omega arith)
          (λ w b d. between w (omega arith) d))
          ))

      -- it stands again, or is dropped
      pub pass_skip : (at cs (i - 1) ≡ at cs i) ⊎ (kept_row axis trees.level.now cs (at cs (i - 1)) ≡ false)
          → Passed axis trees.level.now cs kept (i + 1)
      pass_skip g = pass_on (omega (arith, s.few)) (s.counted ∙ ap (λ (k : ℕ). k + 1) (⊎_elim
          (λ e. ap (kept_below axis trees.level.now cs) e)
          (λ e. sym (below_skip axis trees.level.now cs (at cs (i - 1)) (at cs i)
          (contexts_rise pre.contexts (i - 1) i (omega arith) l)
          (λ w a b. ⊎_elim
          (λ (q : at cs (i - 1) ≡ w). ap (kept_row axis trees.level.now cs) (sym q) ∙ e)
          (λ (q : at cs (i - 1) < w). between w q b)
          (eq-or-lt_of_le a))))
          g))

-- ── ancestors of contexts are dropped ──
module _ {trees : Trees} {cs : List ℕ} (pre : KeptIn trees cs) {kept i : ℕ}
    (s : Passed 6 trees.level.now cs kept i) where
  last : i - 1 < length cs
  last = omega (arith, s.some, s.place)

  in_use : at cs (i - 1) < trees.count
  in_use = pre.contexts.inside (i - 1) last

  -- the first i contexts are no descendants of the last of them
  none_under : (j : ℕ) → j < i → drops 6 trees.level.now (at cs (i - 1)) (at cs j) ≡ false
  unfolding drops
  none_under j l =
      ancestor_not_before trees.shape in_use (pre.contexts.inside j (omega (arith, s.place)))
      (contexts_rise pre.contexts j (i - 1) (omega arith) last)

  pub inner_done : length cs ≤ i → kept ≡ kept_of 6 trees.level.now cs
  inner_done l = pass_done 6 pre s l (row_kept 6 trees.level.now cs (i - 1) last (λ j m. none_under j (omega arith)))

  module _ (l : i < length cs) where
    -- the next context comes after the descendants of the last one
    pub inner_count : at cs (i - 1) + at trees.size.now (at cs (i - 1)) < at cs i
        → Passed 6 trees.level.now cs (kept + 1) (i + 1)
    unfolding drops
    inner_count a = pass_count 6 pre s l (omega arith) (row_kept 6 trees.level.now cs (i - 1) last (λ j m. ⊎_elim
        (λ (k : j < i). none_under j k)
        (λ (k : i ≤ j). ancestor_not_past trees.shape in_use (pre.contexts.inside j m)
        (omega (arith, contexts_rise pre.contexts i j k m)))
        (less? j i)))

    -- it is the same, or a descendant of the last one
    pub inner_skip : at cs i ≤ at cs (i - 1) + at trees.size.now (at cs (i - 1))
        → Passed 6 trees.level.now cs kept (i + 1)
    unfolding drops
    inner_skip a = pass_skip 6 pre s l (⊎_elim
        (λ e. inl e)
        (λ k. inr (row_dropped 6 trees.level.now cs (at cs (i - 1)) i l
        ((shape_descendants trees.shape (at cs (i - 1)) (at cs i) in_use (pre.contexts.inside i l)).1 (k, a))))
        (eq-or-lt_of_le (contexts_rise pre.contexts (i - 1) i (omega arith) l)))

-- ── no context is dropped ──
module _ {trees : Trees} {cs : List ℕ} (pre : KeptIn trees cs) {kept i : ℕ}
    (s : Passed 1 trees.level.now cs kept i) where
  last_kept : kept_row 1 trees.level.now cs (at cs (i - 1)) ≡ true
  unfolding drops
  last_kept = row_kept 1 trees.level.now cs (i - 1) (omega (arith, s.some, s.place)) (λ j m. refl)

  pub own_done : length cs ≤ i → kept ≡ kept_of 1 trees.level.now cs
  own_done l = pass_done 1 pre s l last_kept

  module _ (l : i < length cs) where
    -- the next context is another
    pub own_count : at cs (i - 1) < at cs i → Passed 1 trees.level.now cs (kept + 1) (i + 1)
    own_count a = pass_count 1 pre s l a last_kept

    -- it is the same
    pub own_skip : at cs i ≤ at cs (i - 1) → Passed 1 trees.level.now cs kept (i + 1)
    own_skip a =
        pass_skip 1 pre s l (inl (le_antisymm (contexts_rise pre.contexts (i - 1) i (omega arith) l) a))

-- ── fewer than two contexts ──
-- two answers that are no
neither_way : (b : Bool) {x y : Bool} → x ≡ false → y ≡ false → cond b x y ≡ false
neither_way true e f = e
neither_way false e f = f

module _ {trees : Trees} {cs : List ℕ} (pre : KeptIn trees cs) (axis : ℕ) where
  -- no row makes itself redundant
  own_stays : (c : ℕ) → c < trees.count → drops axis trees.level.now c c ≡ false
  unfolding drops
  own_stays c l =
      let a : ancestor trees.level.now c c ≡ false = ancestor_not_before trees.shape l l (le_refl c) in
      neither_way (eqb axis 3 || eqb axis 4) a
      (neither_way (eqb axis 6 || eqb axis 7) a
      (neither_way (eqb axis 8 || eqb axis 9)
      (ap (λ (b : Bool). same_tree trees.level.now c c && b) (le-ltb c c (le_refl c))
      ∙ and-false (same_tree trees.level.now c c)) refl))

  pub kept_few : length cs < 2 → length cs ≡ kept_of axis trees.level.now cs
  kept_few l = ⊎_elim
      (λ (x : length cs < 1). let e : length cs ≡ 0 = omega arith in e ∙ kept_none axis trees.level.now cs e)
      (λ (x : 1 ≤ length cs).
      let e : length cs ≡ 1 = omega arith in
      e ∙ pass_done axis pre (pass_start axis pre x) (omega arith) (row_kept axis trees.level.now cs 0 x (λ j m.
      let z : j ≡ 0 = omega arith in
      ap (λ (k : ℕ). drops axis trees.level.now (at cs 0) (at cs k)) z
      ∙ own_stays (at cs 0) (pre.contexts.inside 0 x))))
      (less? (length cs) 1)
