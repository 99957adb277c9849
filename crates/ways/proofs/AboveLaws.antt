-- The axes ancestor, own 0, and ancestor-or-self, own 1: a row is on the axis of a context exactly if it is not after
-- it and its subtree has the context, `above_on`; these rows are on the way up, `start_on`, `start_low`. A loop over
-- the contexts of one role that writes what of each way up is new: `ascent-..`. Assumes nothing.
use Prim.Native.Nat.{ℕ, zero, suc, ◌+◌, ◌<◌, ◌≤◌}
use mathlib.Core.Path.{◌≡◌, refl, sym, ap, ◌∙◌}
use mathlib.Core.Logic.{⊎_elim}
use mathlib.Core.Bool.{Bool, true, false, ◌&&◌, ◌||◌, and-false}
use mathlib.Core.List.{List}
use native.Mathlib.Nat.{not-suc-le-zero, add-zero}
use native.Mathlib.Numerals.{add-one}
use native.Mathlib.Omega.{arith}
use borrow.Author.Count.{below_more}
use borrow.Author.Tests.{ltb-true, lt-ltb, le-ltb, leb-false, le-leb, lt-leb, eq-eqb, eqb-true}
use lib.Dec.{ltb, leb, eqb}
use lib.ListN.{length}
use Rattle.tree.specs.Table.{at}
use Rattle.tree.specs.Tree.{ancestor}
use Rattle.tree.specs.Axis.{on_axis}
use Rattle.tree.specs.Rules.{Shape}
use Rattle.tree.proofs.TreeLaws.{less?}
use Rattle.tree.proofs.SoundLaws.{both, both_of, either, either_left, either_right}
use Rattle.tree.proofs.AxisLaws.{same_test, ancestor_is}
use Rattle.scan.specs.Want.{accepts}
use Rattle.scan.specs.OneRole.{any_on, one_role, RoleIn, Parents, Wrote}
use Rattle.scan.specs.Range.{Appended}
use Rattle.scan.proofs.AppendedLaws.{appended_as}
use Rattle.scan.proofs.RangeLaws.{contexts_rise, any_hit, any_miss, Covered, cover_start, cover_done}
use Rattle.scan.proofs.RangeLaws.{part_room, cover_part}
use Rattle.ways.specs.Above.{on_path, way_up, way_start, WayIn}
use Rattle.ways.proofs.ClimbLaws.{parent_low, ancestor_path, way_rows}
use Rattle.ways.proofs.AncestorLaws.{axis_ancestor, axis_path}
use Rattle.scan.specs.declared.trees.Trees.{Trees}
use Rattle.scan.specs.declared.want.NodeTest.{NodeTest}

-- ── the axes ──
module _ {size level : List ℕ} {n : ℕ} (s : Shape size level n) where
  own_on : (c w : ℕ) → c < n → w < n → on_axis 7 level c w ≡ (ltb w (c + 1) && leb c (w + at size w))
  unfolding on_axis
  own_on c w m l = same_test _ _ there back
    where
      there : (eqb w c || ancestor level w c) ≡ true → (ltb w (c + 1) && leb c (w + at size w)) ≡ true
      there e = ⊎_elim
          (λ h. let q : w ≡ c = eqb-true w c h in
          both_of (lt-ltb w (c + 1) (omega arith)) (le-leb c (w + at size w) (omega arith)))
          (λ h. let d = both (ltb w c) (leb c (w + at size w)) (sym (ancestor_is s w c l m) ∙ h) in
          both_of (lt-ltb w (c + 1) (omega (arith, ltb-true w c d.0))) d.1)
          (either (eqb w c) (ancestor level w c) e)

      back : (ltb w (c + 1) && leb c (w + at size w)) ≡ true → (eqb w c || ancestor level w c) ≡ true
      back e =
          let d = both (ltb w (c + 1)) (leb c (w + at size w)) e in
          ⊎_elim
          (λ (q : w < c). either_right (eqb w c) (ancestor_is s w c l m ∙ both_of (lt-ltb w c q) d.1))
          (λ (q : c ≤ w). either_left (ancestor level w c) (eq-eqb w c (omega (arith, ltb-true w (c + 1) d.0))))
          (less? w c)

  above_on : (own : ℕ) → own ≤ 1 → (c w : ℕ) → c < n → w < n
      → on_axis (6 + own) level c w ≡ (ltb w (c + own) && leb c (w + at size w))
  above_on zero o c w m l =
      axis_ancestor level c w
      ∙ ancestor_is s w c l m
      ∙ ap (λ (k : ℕ). ltb w k && leb c (w + at size w)) (sym (add-zero c))
  above_on (suc zero) o c w m l = own_on c w m l
  above_on (suc (suc k)) o c w m l = absurd (omega arith)

  -- the rows on the axis are those on the way up
  start_on : (own : ℕ) → own ≤ 1 → (c w : ℕ) → c < n
      → on_path level (way_start own level c) w ≡ on_axis (6 + own) level c w
  unfolding way_start
  start_on zero o c w m = sym (axis_ancestor level c w ∙ ancestor_path s c w m)
  start_on (suc zero) o c w m = ap (λ (k : ℕ). on_path level k w) (add-one c) ∙ sym (axis_path level c w)
  start_on (suc (suc k)) o c w m = absurd (omega arith)

  start_low : (own : ℕ) → own ≤ 1 → (c : ℕ) → way_start own level c ≤ c + own
  unfolding way_start
  start_low zero o c = omega (arith, parent_low level c)
  start_low (suc zero) o c = omega arith
  start_low (suc (suc k)) o c = absurd (omega arith)

-- ── a loop over the contexts ──
-- the rows reached below floor are written; those of the first i contexts are below it, and it is not past the others
pub record Ascent (own : ℕ) (trees : Trees) (test : NodeTest) (cs d out : List ℕ) (next floor i : ℕ) : Type 0 where
  pub index : i ≤ length cs
  pub covered : Covered (6 + own) trees.level.now trees.count (accepts test) cs d out next floor
  pub passed : (j : ℕ) → j < i → at cs j + own ≤ floor
  pub ahead : (j : ℕ) → i ≤ j → j < length cs → floor ≤ at cs j + own

module _ {own : ℕ} (o : own ≤ 1) {trees : Trees} {test : NodeTest} {cs d : List ℕ}
    (pre : RoleIn (6 + own) trees test cs d) where
  abbrev fit : ℕ → Bool
  fit = accepts test

  -- a row after the rows of a context
  late : (c w : ℕ) → c < trees.count → w < trees.count → c + own ≤ w → on_axis (6 + own) trees.level.now c w ≡ false
  late c w m l h =
      above_on trees.shape own o c w m l
      ∙ ap (λ (b : Bool). b && leb c (w + at trees.size.now w)) (le-ltb w (c + own) h)

  -- a row whose subtree ends before a context
  ended : (c w : ℕ) → c < trees.count → w < trees.count → w + at trees.size.now w < c
      → on_axis (6 + own) trees.level.now c w ≡ false
  ended c w m l h =
      above_on trees.shape own o c w m l
      ∙ ap (λ (b : Bool). ltb w (c + own) && b) (lt-leb c (w + at trees.size.now w) h)
      ∙ and-false (ltb w (c + own))

  pub ascent_start : Ascent own trees test cs d d 0 0 0
  ascent_start = record {
    index = omega arith;
    covered = cover_start pre;
    passed = λ j l. absurd (not-suc-le-zero l);
    ahead = λ j l m. omega arith;
  }

  module _ {out : List ℕ} {next floor i : ℕ}
      (s : Ascent own trees test cs d out next floor i) where
    -- after the last context
    pub ascent_done : length cs ≤ i → Wrote (one_role (6 + own) trees.level.now trees.count fit cs) d next out
    ascent_done h = cover_done s.covered (λ w l m. any_miss (6 + own) trees.level.now cs w
        (λ j k. late (at cs j) w (pre.contexts.inside j k) m (omega (arith, s.passed j (omega arith)))))

    module _ (less : i < length cs) {a : ℕ} (from : a ≡ way_start own trees.level.now (at cs i)) where
      -- the context
      abbrev C : ℕ
      C = at cs i

      here : at cs i < trees.count
      here = pre.contexts.inside i less

      -- from the floor on, and not after the context, the rows reached are those on its axis
      mine : (w : ℕ) → floor ≤ w → w < C + own
          → any_on (6 + own) trees.level.now cs w ≡ on_axis (6 + own) trees.level.now C w
      mine w l m = go (on_axis (6 + own) trees.level.now C w) refl
        where
          v : w < trees.count
          v = omega (arith, here)

          -- its subtree ends before the context, so before the later ones
          over : on_axis (6 + own) trees.level.now C w ≡ false → w + at trees.size.now w < C
          over e = leb-false C (w + at trees.size.now w)
              (sym (ap (λ (b : Bool). b && leb C (w + at trees.size.now w)) (lt-ltb w (C + own) m))
              ∙ sym (above_on trees.shape own o C w here v) ∙ e)

          go : (b : Bool) → on_axis (6 + own) trees.level.now C w ≡ b → any_on (6 + own) trees.level.now cs w ≡ b
          go true e = any_hit (6 + own) trees.level.now cs w i less e
          go false e = any_miss (6 + own) trees.level.now cs w (λ j k.
              let q : at cs j < trees.count = pre.contexts.inside j k in
              ⊎_elim
              (λ (x : j < i). late (at cs j) w q v (omega (arith, s.passed j x)))
              (λ (x : i ≤ j). ended (at cs j) w q v
              (omega (arith, over e, contexts_rise pre.contexts i j x k)))
              (less? j i))

      on_way : (w : ℕ) → floor ≤ w → w < C + own → any_on (6 + own) trees.level.now cs w ≡ on_path trees.level.now a w
      on_way w l m =
          mine w l m
          ∙ sym (start_on trees.shape own o C w here)
          ∙ ap (λ (k : ℕ). on_path trees.level.now k w) (sym from)

      a_low : a ≤ C + own
      a_low = omega (arith, start_low trees.shape own o C)

      end : C + own ≤ trees.count
      end = omega (arith, here)

      pub ascent_asks : {up : List ℕ} → Parents trees.level.now trees.count up → WayIn trees up test floor a out next
      ascent_asks p = record {
        parents = p;
        low = omega (arith, a_low, end);
        in_kind = pre.in_kind;
        in_name = pre.in_name;
        room = omega (
          arith,
          part_room s.covered (C + own) (s.ahead i (omega arith) less) end (on_path trees.level.now a) on_way,
          ap length (way_rows trees.shape floor fit a (C + own) (omega (arith, a_low, end)) a_low),
        );
      }

      pub ascent_next : {r : ℕ} {new : List ℕ} → Appended (way_up trees.level.now floor a fit) out next r new
          → Ascent own trees test cs d new r (at cs i + own) (i + 1)
      ascent_next g = record {
        index = omega arith;
        covered = cover_part s.covered (C + own) (s.ahead i (omega arith) less) end (on_path trees.level.now a) on_way
            (appended_as
            (sym (way_rows trees.shape floor fit a (C + own) (omega (arith, a_low, end)) a_low)) g);
        passed = below_more (λ (j : ℕ). at cs j + own ≤ C + own) i
            (λ j l. omega (arith, contexts_rise pre.contexts j i (omega arith) less)) (omega arith);
        ahead = λ j l m. omega (arith, contexts_rise pre.contexts i j (omega arith) m);
      }
