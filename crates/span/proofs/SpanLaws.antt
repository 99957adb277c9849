-- Axes on which the rows of a context are a range: `self_spans`, `below_spans`. `turn-..` are the turns of a loop over
-- the contexts of one role that writes what of each range is not covered yet. Assumes nothing.
use mathlib.Core.Path.{◌≡◌, sym, ap, ◌∙◌}
use mathlib.Core.Logic.{⊎_elim}
use mathlib.Core.Bool.{Bool, true, false, ◌&&◌, ◌||◌, and-false}
use mathlib.Core.List.{List}
use Prim.Native.Nat.{ℕ, zero, suc, ◌+◌, ◌-◌, ◌<◌, ◌≤◌, max}
use native.Mathlib.Nat.{not-suc-le-zero}
use native.Mathlib.Numerals.{add-one}
use native.Mathlib.Omega.{arith}
use borrow.Author.Count.{below_more}
use borrow.Author.Tests.{ltb-true, lt-ltb, le-leb, lt-leb, leb-true, eq-eqb, eqb-true}
use lib.Dec.{ltb, leb, eqb}
use lib.ListN.{length}
use Rattle.tree.specs.Table.{at}
use Rattle.tree.specs.Tree.{ancestor}
use Rattle.tree.specs.Axis.{on_axis}
use Rattle.tree.specs.Rules.{Shape}
use Rattle.tree.proofs.TreeLaws.{less?}
use Rattle.tree.proofs.SoundLaws.{both, both_of, either, either_left, either_right, shape_fits}
use Rattle.tree.proofs.AxisLaws.{same_test, ancestor_is}
use Rattle.scan.specs.declared.trees.Trees.{Trees}
use Rattle.scan.specs.declared.want.NodeTest.{NodeTest}
use Rattle.scan.specs.Want.{accepts}
use Rattle.scan.specs.OneRole.{any_on, one_role, RoleIn, Wrote}
use Rattle.scan.specs.Range.{rows_in, Appended, RangeIn}
use Rattle.scan.proofs.RangeLaws.{contexts_rise, any_hit, any_miss, Covered, cover_start, cover_skip}
use Rattle.scan.proofs.RangeLaws.{cover_range, cover_asks, cover_done}

-- the rows on the axis of a context c are those from first c to last c
pub record Spans (axis : ℕ) (level : List ℕ) (n : ℕ) (first last : ℕ → ℕ) : Type 0 where
  pub on : (c w : ℕ) → c < n → w < n → on_axis axis level c w ≡ (leb (first c) w && leb w (last c))
  pub rise : (b c : ℕ) → b ≤ c → first b ≤ first c
  pub low : (c : ℕ) → c < n → first c ≤ n
  pub high : (c : ℕ) → c < n → last c < n

-- ── the axes ──
same_range : (w c : ℕ) → eqb w c ≡ (leb c w && leb w c)
same_range w c = same_test _ _
    (λ e. let q : w ≡ c = eqb-true w c e in both_of (le-leb c w (omega arith)) (le-leb w c (omega arith)))
    (λ e. let d = both (leb c w) (leb w c) e in eq-eqb w c (omega (arith, leb-true c w d.0, leb-true w c d.1)))

pub self_spans : (level : List ℕ) (n : ℕ) → Spans 1 level n (λ c. c) (λ c. c)
unfolding on_axis
self_spans level n = record {
  on = λ c w m l. same_range w c;
  rise = λ b c l. l;
  low = λ c l. omega arith;
  high = λ c l. l;
}

module _ {size level : List ℕ} {n : ℕ} (s : Shape size level n) where
  descendant_range : (c w : ℕ) → c < n → w < n → on_axis 3 level c w ≡ (leb (c + 1) w && leb w (c + at size c))
  unfolding on_axis
  descendant_range c w m l =
      ancestor_is s c w m l ∙ ap (λ (k : ℕ). leb k w && leb w (c + at size c)) (sym (add-one c))

  own_range : (c w : ℕ) → c < n → w < n → on_axis 4 level c w ≡ (leb (c + 0) w && leb w (c + at size c))
  unfolding on_axis
  own_range c w m l = same_test _ _ there back
    where
      there : (eqb w c || ancestor level c w) ≡ true → (leb (c + 0) w && leb w (c + at size c)) ≡ true
      there e = ⊎_elim
          (λ h. let q : w ≡ c = eqb-true w c h in
          both_of (le-leb (c + 0) w (omega arith)) (le-leb w (c + at size c) (omega arith)))
          (λ h. let d = both (ltb c w) (leb w (c + at size c)) (sym (ancestor_is s c w m l) ∙ h) in
          let q : c < w = ltb-true c w d.0 in
          both_of (le-leb (c + 0) w (omega arith)) d.1)
          (either (eqb w c) (ancestor level c w) e)

      back : (leb (c + 0) w && leb w (c + at size c)) ≡ true → (eqb w c || ancestor level c w) ≡ true
      back e =
          let d = both (leb (c + 0) w) (leb w (c + at size c)) e in
          let p : c + 0 ≤ w = leb-true (c + 0) w d.0 in
          ⊎_elim
          (λ (q : c < w). either_right (eqb w c) (ancestor_is s c w m l ∙ both_of (lt-ltb c w q) d.1))
          (λ (q : w ≤ c). either_left (ancestor level c w) (eq-eqb w c (omega arith)))
          (less? c w)

  -- descendants, from c + 1 on, and with the context itself, from c + 0 on
  pub below_spans : (first : ℕ) → first ≤ 1 → Spans (4 - first) level n (λ c. c + first) (λ c. c + at size c)
  below_spans first f = record {
    on = on first f;
    rise = λ b c l. omega arith;
    low = λ c l. omega arith;
    high = shape_fits s;
  }
    where
      on : (first : ℕ) → first ≤ 1 → (c w : ℕ) → c < n → w < n
          → on_axis (4 - first) level c w ≡ (leb (c + first) w && leb w (c + at size c))
      on zero f = own_range
      on (suc zero) f = descendant_range
      on (suc (suc k)) f = absurd (omega arith)

-- ── a loop over the contexts ──
-- the rows reached below pos are written, and those of the first i contexts are all below pos
pub record Turning (axis : ℕ) (level : List ℕ) (n : ℕ) (test : ℕ → Bool) (last : ℕ → ℕ) (cs d out : List ℕ)
    (next pos i : ℕ) : Type 0 where
  pub index : i ≤ length cs
  pub covered : Covered axis level n test cs d out next pos
  pub passed : (j : ℕ) → j < i → last (at cs j) < pos

module _ {axis : ℕ} {trees : Trees} {test : NodeTest} {cs d : List ℕ} (pre : RoleIn axis trees test cs d)
    {first last : ℕ → ℕ} (spans : Spans axis trees.level.now trees.count first last) where
  -- a row before, or after, the rows of a context
  early : (c w : ℕ) → c < trees.count → w < trees.count → w < first c → on_axis axis trees.level.now c w ≡ false
  early c w m l h = spans.on c w m l ∙ ap (λ (b : Bool). b && leb w (last c)) (lt-leb (first c) w h)

  late : (c w : ℕ) → c < trees.count → w < trees.count → last c < w → on_axis axis trees.level.now c w ≡ false
  late c w m l h =
      spans.on c w m l ∙ ap (λ (b : Bool). leb (first c) w && b) (lt-leb w (last c) h) ∙ and-false (leb (first c) w)

  pub turn_start : Turning axis trees.level.now trees.count (accepts test) last cs d d 0 0 0
  turn_start = record { index = omega arith; covered = cover_start pre; passed = λ j l. absurd (not-suc-le-zero l) }

  module _ {out : List ℕ} {next pos i : ℕ}
      (s : Turning axis trees.level.now trees.count (accepts test) last cs d out next pos i) where
    -- after the last context
    pub turn_done : length cs ≤ i → Wrote (one_role axis trees.level.now trees.count (accepts test) cs) d next out
    turn_done h = cover_done s.covered (λ w l m. any_miss axis trees.level.now cs w
        (λ j k. late (at cs j) w (pre.contexts.inside j k) m (omega (arith, s.passed j (omega arith)))))

    module _ (less : i < length cs) {a b : ℕ}
        (from : a ≡ max pos (first (at cs i))) (to : b ≡ max a (last (at cs i) + 1)) where
      here : at cs i < trees.count
      here = pre.contexts.inside i less

      end : b ≤ trees.count
      end = omega (arith, s.covered.inside, spans.low (at cs i) here, spans.high (at cs i) here)

      -- the rows of an earlier context are written, and those of a later one start no earlier
      gap : (w : ℕ) → pos ≤ w → w < a → any_on axis trees.level.now cs w ≡ false
      gap w l m = any_miss axis trees.level.now cs w (λ j k.
          let h : at cs j < trees.count = pre.contexts.inside j k in
          let v : w < trees.count = omega (arith, end) in
          ⊎_elim
          (λ (q : j < i). late (at cs j) w h v (omega (arith, s.passed j q)))
          (λ (q : i ≤ j). early (at cs j) w h v
          (omega (arith, spans.rise (at cs i) (at cs j) (contexts_rise pre.contexts i j q k))))
          (less? j i))

      at_first : Covered axis trees.level.now trees.count (accepts test) cs d out next a
      at_first = cover_skip s.covered a (omega arith) (omega (arith, end)) gap

      -- the rest are on the context's axis
      mine : (w : ℕ) → a ≤ w → w < b → any_on axis trees.level.now cs w ≡ true
      mine w l m = any_hit axis trees.level.now cs w i less (spans.on (at cs i) w here (omega (arith, end))
          ∙ both_of (le-leb (first (at cs i)) w (omega arith)) (le-leb w (last (at cs i)) (omega arith)))

      pub turn_asks : RangeIn test a b out next
      turn_asks = cover_asks pre at_first b (omega arith) end mine

      pub turn_next : {r : ℕ} {new : List ℕ} → Appended (rows_in (accepts test) a b) out next r new
          → Turning axis trees.level.now trees.count (accepts test) last cs d new r b (i + 1)
      turn_next g = record {
        index = omega arith;
        covered = cover_range at_first b (omega arith) end mine g;
        passed = below_more (λ (j : ℕ). last (at cs j) < b) i (λ j l. omega (arith, s.passed j l)) (omega arith);
      }
