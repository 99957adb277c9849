-- Sets of rows that grow. What is on the axis of one of several contexts: `any_append`, `any_take_more`, `any_also`.
-- The set with more rows: `joined_none`, `joined_as`, `joined_more`. The set of what the contexts so far
-- reach: `marked_none`, `marked_as`, `marked_more`. A set is used through `has` alone. Assumes nothing.
use Prim.Native.Nat.{ℕ, zero, suc, ◌+◌, ◌<◌}
use mathlib.Core.Path.{◌≡◌, refl, sym, ap, ap₂, ◌∙◌}
use mathlib.Core.Logic.{⊎_elim}
use mathlib.Core.Bool.{Bool, true, false, ◌&&◌, ◌||◌, false≢true}
use mathlib.Core.Bool.{or_assoc, or_comm, or-false, and-false, and-or_distrib_left}
use mathlib.Core.List.{List, [], ◌∷◌, ◌++◌}
use native.Mathlib.Nat.{zero-lt-suc}
use native.Mathlib.Numerals.{add-one}
use native.Mathlib.Omega.{arith}
use lib.Dec.{ltb}
use lib.ListN.{length, take}
use lib.Seq.{take-suc}
use Rattle.tree.specs.Table.{at}
use Rattle.tree.specs.Axis.{on_axis}
use Rattle.tree.proofs.SoundLaws.{either, either_left, either_right}
use Rattle.tree.proofs.AxisLaws.{same_test}
use Rattle.scan.specs.declared.trees.Trees.{Trees}
use Rattle.scan.specs.OneRole.{any_on}
use Rattle.marks.specs.RowSet.{has, Blank, Marked}
use Rattle.marks.specs.Mark.{Joined}
use Rattle.marks.proofs.RowSetLaws.{has_blank}

-- ── several contexts ──
module _ (axis : ℕ) (level : List ℕ) where
  any_none : (w : ℕ) → any_on axis level [] w ≡ false
  unfolding any_on
  any_none w = refl

  any_first : (c : ℕ) (cs : List ℕ) (w : ℕ)
      → any_on axis level (c ∷ cs) w ≡ (on_axis axis level c w || any_on axis level cs w)
  unfolding any_on
  any_first c cs w = refl

  any_one : (c w : ℕ) → any_on axis level (c ∷ []) w ≡ on_axis axis level c w
  unfolding any_on
  any_one c w = or-false (on_axis axis level c w)

  pub any_append : (xs ys : List ℕ) (w : ℕ)
      → any_on axis level (xs ++ ys) w ≡ (any_on axis level xs w || any_on axis level ys w)
  unfolding any_on
  any_append [] ys w = refl
  any_append (c ∷ xs) ys w =
      ap (λ (b : Bool). on_axis axis level c w || b) (any_append xs ys w)
      ∙ sym (or_assoc (on_axis axis level c w) (any_on axis level xs w) (any_on axis level ys w))

  -- one context more, from the front
  pub any_take_more : (cs : List ℕ) (i w : ℕ) → i < length cs
      → any_on axis level (take (i + 1) cs) w ≡ any_on axis level (at cs i ∷ take i cs) w
  any_take_more cs i w l =
      ap (λ (k : ℕ). any_on axis level (take k cs) w) (add-one i)
      ∙ ap (λ (xs : List ℕ). any_on axis level xs w) (take-suc cs i 0 l)
      ∙ any_append (take i cs) (at cs i ∷ []) w
      ∙ ap (λ (b : Bool). any_on axis level (take i cs) w || b) (any_one (at cs i) w)
      ∙ or_comm (any_on axis level (take i cs) w) (on_axis axis level (at cs i) w)
      ∙ sym (any_first (at cs i) (take i cs) w)

  -- where each context that reaches x reaches y too, y is reached if x is
  pub any_also : (cs : List ℕ) (x y : ℕ)
      → ((k : ℕ) → k < length cs → on_axis axis level (at cs k) x ≡ true → on_axis axis level (at cs k) y ≡ true)
      → any_on axis level cs x ≡ true → any_on axis level cs y ≡ true
  any_also [] x y h e = absurd (false≢true (sym (any_none x) ∙ e))
  any_also (c ∷ cs) x y h e = any_first c cs y ∙ ⊎_elim
      (λ (p : on_axis axis level c x ≡ true).
      either_left (any_on axis level cs y) (h zero (zero-lt-suc (length cs)) p))
      (λ p. either_right (on_axis axis level c y) (any_also cs x y (λ k l. h (suc k) (omega arith)) p))
      (either (on_axis axis level c x) (any_on axis level cs x) (sym (any_first c cs x) ∙ e))

-- ── more rows ──
-- all of them are in already
pub joined_none : (f : ℕ → Bool) {words : List ℕ}
    → ((w : ℕ) → w < 4096 → f w ≡ true → has words w ≡ true) → Joined f words words
joined_none f {words} h = record {
  rows = λ w l. same_test _ _
      (λ e. either_right (f w) e)
      (λ e. ⊎_elim (λ p. h w l p) (λ p. p) (either (f w) (has words w) e));
}

module _ {f : ℕ → Bool} {old words : List ℕ} where
  -- another test: it passes all that went in, and what it passes is in
  pub joined_as : (g : ℕ → Bool) → Joined f old words
      → ((w : ℕ) → w < 4096 → f w ≡ true → g w ≡ true)
      → ((w : ℕ) → w < 4096 → g w ≡ true → (f w || has old w) ≡ true)
      → Joined g old words
  joined_as g j a b = record {
    rows = λ w l. j.rows w l ∙ same_test _ _
        (λ e. ⊎_elim
        (λ p. either_left (has old w) (a w l p))
        (λ p. either_right (g w) p)
        (either (f w) (has old w) e))
        (λ e. ⊎_elim (λ p. b w l p) (λ p. either_right (f w) p) (either (g w) (has old w) e));
  }

  -- several rows more
  pub joined_more : {g : ℕ → Bool} (k : ℕ → Bool) {new : List ℕ} → Joined f old words
      → Joined g words new → ((w : ℕ) → w < 4096 → (g w || f w) ≡ k w) → Joined k old new
  joined_more {g} k j a h = record {
    rows = λ w l.
        a.rows w l
        ∙ ap (λ (b : Bool). g w || b) (j.rows w l)
        ∙ sym (or_assoc (g w) (f w) (has old w))
        ∙ ap (λ (b : Bool). b || has old w) (h w l);
  }

-- ── the contexts so far ──
pub marked_none : (axis : ℕ) (trees : Trees) {words : List ℕ} → Blank words → Marked axis trees [] words
marked_none axis trees b = record {
  rows = λ w l. has_blank b w l
      ∙ sym (ap (λ (t : Bool). ltb w trees.count && t) (any_none axis trees.level.now w)
      ∙ and-false (ltb w trees.count));
}

module _ {axis : ℕ} {trees : Trees} where
  -- other contexts that reach the same
  pub marked_as : {cs ds words : List ℕ}
      → ((w : ℕ) → any_on axis trees.level.now ds w ≡ any_on axis trees.level.now cs w)
      → Marked axis trees cs words → Marked axis trees ds words
  marked_as h m = record { rows = λ w l. m.rows w l ∙ ap (λ (b : Bool). ltb w trees.count && b) (sym (h w)) }

  -- one context more
  pub marked_more : (f : ℕ → Bool) (c : ℕ) {cs old new : List ℕ}
      → Marked axis trees cs old → Joined f old new
      → ((w : ℕ) → w < 4096 → f w ≡ (ltb w trees.count && on_axis axis trees.level.now c w))
      → Marked axis trees (c ∷ cs) new
  marked_more f c {cs} m j h = record {
    rows = λ w l.
        j.rows w l
        ∙ ap₂ ◌||◌ (h w l) (m.rows w l)
        ∙ sym (and-or_distrib_left (ltb w trees.count) (on_axis axis trees.level.now c w)
        (any_on axis trees.level.now cs w))
        ∙ ap (λ (b : Bool). ltb w trees.count && b) (sym (any_first axis trees.level.now c cs w));
  }
