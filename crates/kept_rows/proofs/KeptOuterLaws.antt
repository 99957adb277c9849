-- The rows that a role keeps where descendants of contexts are dropped: `outer-..` are the turns of the pass that
-- counts them. Before that, `ancestor-not-..`, rows that are no descendants of a row. Assumes nothing.
use mathlib.Core.Path.{◌≡◌, refl, sym, ap, ◌∙◌}
use mathlib.Core.Logic.{◌⊎◌, inl, inr, ⊎_elim}
use mathlib.Core.Bool.{Bool, true, false, cond, ◌&&◌, and-false}
use mathlib.Core.List.{List}
use Prim.Native.Nat.{ℕ, ◌+◌, ◌<◌, ◌≤◌, max}
use native.Mathlib.Nat.{not-suc-le-zero, eq-or-lt_of_le}
use native.Mathlib.Omega.{arith}
use borrow.Author.Count.{below_more}
use borrow.Author.Tests.{le-ltb, leb-true, leb-false, lt-leb}
use lib.Dec.{ltb, leb}
use lib.ListN.{length}
use Rattle.tree.specs.Table.{at}
use Rattle.tree.specs.Tree.{ancestor}
use Rattle.tree.specs.Kept.{drops}
use Rattle.tree.specs.Rules.{Shape}
use Rattle.tree.proofs.TreeLaws.{less?}
use Rattle.tree.proofs.SoundLaws.{shape_descendants, shape_fits}
use Rattle.tree.proofs.AxisLaws.{ancestor_is}
use Rattle.scan.specs.declared.trees.Trees.{Trees}
use Rattle.kept_rows.specs.KeptOf.{kept_of, KeptIn}
use Rattle.scan.proofs.RangeLaws.{contexts_rise}
use Rattle.scan.proofs.SideLaws.{nests}
use Rattle.kept_rows.proofs.KeptOfLaws.{kept_row, kept_below, kept_rows, row_none, row_dropped, row_kept}
use Rattle.kept_rows.proofs.KeptOfLaws.{below_skip, below_next, below_none}

-- ── rows that are no descendants ──
module _ {size level : List ℕ} {n : ℕ} (s : Shape size level n) {c w : ℕ} (m : c < n) (l : w < n) where
  -- w is not after c
  pub ancestor_not_before : w ≤ c → ancestor level c w ≡ false
  ancestor_not_before a = ancestor_is s c w m l ∙ ap (λ (x : Bool). x && leb w (c + at size c)) (le-ltb c w a)

  -- w comes after the descendants of c
  pub ancestor_not_past : c + at size c < w → ancestor level c w ≡ false
  ancestor_not_past a =
      ancestor_is s c w m l ∙ ap (λ (x : Bool). ltb c w && x) (lt-leb w (c + at size c) a) ∙ and-false (ltb c w)

-- ── descendants of contexts are dropped ──
-- the rows kept below row pos are counted; the first i contexts and their descendants lie before it, and so do those
-- of any later row that lies before it
pub record Outer (trees : Trees) (cs : List ℕ) (kept pos i : ℕ) : Type 0 where
  pub place : i ≤ length cs
  pub few : kept ≤ i
  pub inside : pos ≤ trees.count
  pub counted : kept ≡ kept_below 3 trees.level.now cs pos
  pub ended : (j : ℕ) → j < i → at cs j + at trees.size.now (at cs j) < pos
  pub closed : (v : ℕ) → ((j : ℕ) → j < i → at cs j ≤ v) → v < pos → v + at trees.size.now v < pos

module _ {trees : Trees} {cs : List ℕ} (pre : KeptIn trees cs) where
  pub outer_start : Outer trees cs 0 0 0
  outer_start = record {
    place = omega arith;
    few = omega arith;
    inside = omega arith;
    counted = sym (below_none 3 trees.level.now cs 0 (λ w l. absurd (not-suc-le-zero l)));
    ended = λ j l. absurd (not-suc-le-zero l);
    closed = λ v h l. absurd (not-suc-le-zero l);
  }

  module _ {kept pos i : ℕ} (s : Outer trees cs kept pos i) where
    -- no row from pos on is a context
    pub outer_done : length cs ≤ i → kept ≡ kept_of 3 trees.level.now cs
    outer_done l =
        s.counted
        ∙ sym (below_skip 3 trees.level.now cs pos trees.count s.inside
        (λ w a b. row_none 3 trees.level.now cs w (λ j m e. omega (arith, s.ended j (omega arith)))))
        ∙ sym (kept_rows 3 trees.level.now cs trees.count pre.contexts.inside)

    module _ (l : i < length cs) where
      in_use : at cs i < trees.count
      in_use = pre.contexts.inside i l

      -- the context lies before pos: an earlier one is the same, or an ancestor of it
      outer_skip : at cs i < pos → Outer trees cs kept pos (i + 1)
      outer_skip a = record {
        place = omega arith;
        few = omega (arith, s.few);
        inside = s.inside;
        counted = s.counted;
        ended = below_more _ i s.ended (s.closed (at cs i) (λ j k. pre.contexts.rising j i k l) a);
        closed = λ v h b. s.closed v (λ j m. h j (omega arith)) b;
      }

      -- a context lies before pos with its descendants, or does not come before this one
      apart : (j : ℕ) → j < length cs → (at cs j + at trees.size.now (at cs j) < pos) ⊎ (at cs i ≤ at cs j)
      apart j m = ⊎_elim
          (λ (k : j < i). inl (s.ended j k))
          (λ (k : i ≤ j). inr (contexts_rise pre.contexts i j k m))
          (less? j i)

      module _ (a : pos ≤ at cs i) where
        -- no context is an ancestor of this one
        free : (j : ℕ) → j < length cs → drops 3 trees.level.now (at cs i) (at cs j) ≡ false
        unfolding drops
        free j m = ⊎_elim
            (λ k. ancestor_not_past trees.shape (pre.contexts.inside j m) in_use (omega arith))
            (λ k. ancestor_not_before trees.shape (pre.contexts.inside j m) in_use k)
            (apart j m)

        -- the descendants of this one are dropped
        dropped : (w : ℕ) → at cs i + 1 ≤ w → w < at cs i + at trees.size.now (at cs i) + 1
            → kept_row 3 trees.level.now cs w ≡ false
        unfolding drops
        dropped w b d =
            let u : w < trees.count = omega (arith, shape_fits trees.shape (at cs i) in_use) in
            row_dropped 3 trees.level.now cs w i l
            ((shape_descendants trees.shape (at cs i) w in_use u).1 (omega arith, omega arith))

        -- from pos to the end of its descendants, only this one is kept
        one_more : kept_below 3 trees.level.now cs (at cs i + at trees.size.now (at cs i) + 1)
            ≡ kept_below 3 trees.level.now cs pos + 1
        one_more =
            below_skip 3 trees.level.now cs (at cs i + 1) (at cs i + at trees.size.now (at cs i) + 1)
            (omega arith) dropped
            ∙ below_next 3 trees.level.now cs (at cs i) (row_kept 3 trees.level.now cs i l free)
            ∙ ap (λ (k : ℕ). k + 1) (below_skip 3 trees.level.now cs pos (at cs i) a
            (λ w b d. row_none 3 trees.level.now cs w
            (λ j m e. ⊎_elim (λ k. omega arith) (λ k. omega arith) (apart j m))))

        -- the context does not lie before pos
        outer_count : Outer trees cs (kept + 1) (at cs i + at trees.size.now (at cs i) + 1) (i + 1)
        outer_count = record {
          place = omega arith;
          few = omega (arith, s.few);
          inside = omega (arith, shape_fits trees.shape (at cs i) in_use);
          counted = ap (λ (k : ℕ). k + 1) s.counted ∙ sym one_more;
          ended = below_more _ i (λ j k. omega (arith, s.ended j k)) (omega arith);
          closed = λ v h b. ⊎_elim
              (λ (e : at cs i ≡ v). let q = ap (at trees.size.now) e in omega arith)
              (λ (k : at cs i < v). omega (arith, (nests trees.shape).within (at cs i) v in_use k (omega arith)))
              (eq-or-lt_of_le (h i (omega arith)));
        }

      -- the context is counted if it does not lie before pos, and pos moves on past its descendants
      pub outer_turn : {one to : ℕ} → one ≡ cond (leb pos (at cs i)) 1 0
          → to ≡ max pos (at cs i + at trees.size.now (at cs i) + 1) → Outer trees cs (kept + one) to (i + 1)
      outer_turn {one} {to} x y = go (leb pos (at cs i)) refl x
        where
          go : (b : Bool) → leb pos (at cs i) ≡ b → one ≡ cond b 1 0 → Outer trees cs (kept + one) to (i + 1)
          go true e z =
              let a : pos ≤ at cs i = leb-true pos (at cs i) e in
              let q : to ≡ at cs i + at trees.size.now (at cs i) + 1 = omega arith in
              rw (z, q) (outer_count a)
          go false e z =
              let t = outer_skip (leb-false pos (at cs i) e) in
              let p : kept + one ≡ kept = omega arith in
              let q : to ≡ pos = omega (arith, t.ended i (omega arith)) in
              rw (p, q) t
