-- A role with one context whose rows are on its way up: which axes these are (`lone_axis`); the context is a row in
-- use (`lone_one`, `lone_row`). On ancestor-or-self the rows are a path, `lone-selves-..`; on ancestor too,
-- `lone-above-..`; on parent they are a range of one row, `lone-parent-..`, or none. Assumes nothing.
use Prim.Native.Nat.{ℕ, suc, ◌+◌, ◌<◌, ◌≤◌}
use mathlib.Core.Path.{◌≡◌, refl, sym, ap, ap₂, ◌∙◌}
use mathlib.Core.Logic.{◌⊎◌, inl, inr, ⊎_elim}
use mathlib.Core.Bool.{Bool, true, false, false≢true, ◌&&◌, ◌||◌, and-true, or-false}
use mathlib.Core.List.{List, [], ◌∷◌}
use native.Mathlib.Numerals.{add-one}
use native.Mathlib.Omega.{arith}
use borrow.Author.Tests.{eqb-true, eq-eqb, ne_eqb}
use lib.Dec.{eqb}
use lib.ListN.{length}
use Rattle.std.specs.Prelude.{Option, None, Some, is_none}
use Rattle.tree.specs.Table.{at}
use Rattle.tree.specs.Tree.{parent}
use Rattle.tree.specs.Axis.{on_axis}
use Rattle.tree.proofs.AxisLaws.{axis_parent}
use Rattle.tree.proofs.SearchLaws.{gather_ext}
use Rattle.tree.proofs.SoundLaws.{both, either}
use Rattle.scan.specs.Want.{accepts}
use Rattle.scan.specs.OneRole.{any_on, one_role, Wrote}
use Rattle.scan.specs.Range.{rows_in, Appended, RangeIn}
use Rattle.lone.specs.Lone.{path_rows, upward, lone_path, PathIn, LoneIn}
use Rattle.ways.specs.Above.{on_path}
use Rattle.scan.proofs.WantLaws.{fits_any}
use Rattle.scan.proofs.RangeLaws.{Covered, cover_start, cover_skip, cover_asks, cover_range, cover_done}
use Rattle.ways.proofs.ClimbLaws.{parent_low, ancestor_path}
use Rattle.ways.proofs.AncestorLaws.{axis_ancestor, axis_path}
use Rattle.lone.proofs.PathLaws.{path_above_count, path_own_count}
use Rattle.scan.specs.declared.trees.Trees.{Trees}
use Rattle.scan.specs.declared.want.NodeTest.{NodeTest}
use Rattle.scan.specs.declared.want.Want.{Want}

-- of one context, the rows on its axis
any_one : (axis : ℕ) (level cs : List ℕ) (w : ℕ) → length cs ≡ 1
    → any_on axis level cs w ≡ on_axis axis level (at cs 0) w
unfolding any_on
any_one axis level [] w e = absurd (omega arith)
any_one axis level (c ∷ []) w e = or-false (on_axis axis level c w)
any_one axis level (c ∷ d ∷ cs) w e = absurd (omega arith)

-- ── what is asked ──
-- one context, and a way up that it asks for
pub lone_path_lem : (many a : ℕ) (want : Want) {up : Bool} → up ≡ upward a want → (eqb many 1 && up) ≡ true
    → lone_path many a want ≡ true
unfolding lone_path
lone_path_lem many a want e h = ap (λ (b : Bool). eqb many 1 && b) (sym e) ∙ h

-- ── what it says where it passes ──
-- what is none is none
none : (o : Option ℕ) → is_none o ≡ true → o ≡ None
none None e = refl
none (Some x) e = absurd (false≢true e)

module _ (many axis : ℕ) (want : Want) (e : lone_path many axis want ≡ true) where
  -- any row is wanted
  abbrev any : Bool
  any = is_none want.kind && is_none want.name

  -- one context, and one of the axes
  tests : (eqb many 1 ≡ true) × ((eqb axis 5 || ((eqb axis 6 || eqb axis 7) && any)) ≡ true)
  unfolding lone_path upward
  tests = both (eqb many 1) _ e

  one_context : many ≡ 1
  one_context = eqb-true many 1 tests.0

  -- the parent, or a way up of which all rows are wanted
  cases : (axis ≡ 5) ⊎ ((eqb axis 6 || eqb axis 7) && any ≡ true)
  cases = ⊎_elim (λ z. inl (eqb-true axis 5 z)) (λ z. inr z) (either (eqb axis 5) _ tests.1)

  any_row_lem : (axis ≡ 5 → ⊥) → (want.kind ≡ None) × (want.name ≡ None)
  any_row_lem n = ⊎_elim
      (λ z. absurd (n z))
      (λ z. let g = both (is_none want.kind) (is_none want.name) (both (eqb axis 6 || eqb axis 7) any z).1 in
      (none want.kind g.0, none want.name g.1))
      cases

  parent_left : (axis ≡ 7 → ⊥) → (axis ≡ 6 → ⊥) → axis ≡ 5
  parent_left n m = ⊎_elim
      (λ z. z)
      (λ z. ⊎_elim (λ y. absurd (m (eqb-true axis 6 y))) (λ y. absurd (n (eqb-true axis 7 y)))
      (either (eqb axis 6) (eqb axis 7) (both (eqb axis 6 || eqb axis 7) any z).0))
      cases

  pub lone_axis : (axis ≡ 5) ⊎ ((axis ≡ 6) ⊎ (axis ≡ 7))
  lone_axis = ⊎_elim
      (λ z. inl z)
      (λ z. inr (⊎_elim (λ y. inl (eqb-true axis 6 y)) (λ y. inr (eqb-true axis 7 y))
      (either (eqb axis 6) (eqb axis 7) (both (eqb axis 6 || eqb axis 7) any z).0)))
      cases

-- ── the rows ──
module _ {axis : ℕ} {trees : Trees} {up : List ℕ} {test : NodeTest} {cs out : List ℕ}
    (h : LoneIn axis trees up test cs out) where
  -- the context, and the link of its parent
  abbrev C : ℕ
  C = at cs 0

  abbrev P : ℕ
  P = at up C

  abbrev fit : ℕ → Bool
  fit = accepts test

  pub lone_one : length cs ≡ 1
  lone_one = one_context (length cs) axis test.want h.lone

  pub lone_row : C < trees.count
  lone_row = h.asks.contexts.inside 0 (omega (arith, lone_one))

  P-is : P ≡ parent trees.level.now C
  P-is = h.parents.parents C lone_row

  P-low : P ≤ C
  P-low = omega (arith, P-is, parent_low trees.level.now C)

  -- where the rows on the axis are those on a path, and each is wanted
  path_rows_lem : (axis ≡ 5 → ⊥) → (link : ℕ)
      → ((w : ℕ) → on_axis axis trees.level.now C w ≡ on_path trees.level.now link w)
      → one_role axis trees.level.now trees.count fit cs ≡ path_rows trees.level.now trees.count link
  unfolding one_role path_rows
  path_rows_lem ne link g =
      let a = any_row_lem (length cs) axis test.want h.lone ne in
      gather_ext (λ w. any_on axis trees.level.now cs w && fit w) (on_path trees.level.now link) trees.count (λ w l.
      ap₂ (λ (x y : Bool). x && y) (any_one axis trees.level.now cs w lone_one ∙ g w)
      (sym (fits_any test.want test.kind.now test.name.now w a.0 a.1))
      ∙ and-true (on_path trees.level.now link w))

  path_asks : (link k : ℕ) → link ≤ trees.count → length (path_rows trees.level.now trees.count link) ≡ k
      → one_role axis trees.level.now trees.count fit cs ≡ path_rows trees.level.now trees.count link
      → PathIn trees up link k out
  path_asks link k l m e = record {
    parents = h.parents;
    low = l;
    many = m;
    room = omega (arith, h.asks.room, ap length e);
  }

  module _ (e : axis ≡ 7) where
    pub lone_selves_rows : one_role axis trees.level.now trees.count fit cs
        ≡ path_rows trees.level.now trees.count (C + 1)
    lone_selves_rows = path_rows_lem (λ (z : axis ≡ 5). omega arith) (C + 1) (λ w.
        ap (λ (x : ℕ). on_axis x trees.level.now C w) e
        ∙ axis_path trees.level.now C w
        ∙ ap (λ (k : ℕ). on_path trees.level.now k w) (sym (add-one C)))

    pub lone_selves_asks : PathIn trees up (C + 1) (at trees.level.now C + 1) out
    lone_selves_asks = path_asks (C + 1) (at trees.level.now C + 1) (omega (arith, lone_row))
        (ap (λ (k : ℕ). length (path_rows trees.level.now trees.count k)) (add-one C)
        ∙ path_own_count trees.shape C lone_row)
        lone_selves_rows

  module _ (e : axis ≡ 6) where
    pub lone_above_rows : one_role axis trees.level.now trees.count fit cs ≡ path_rows trees.level.now trees.count P
    lone_above_rows = path_rows_lem (λ (z : axis ≡ 5). omega arith) P (λ w.
        ap (λ (x : ℕ). on_axis x trees.level.now C w) e
        ∙ axis_ancestor trees.level.now C w
        ∙ ancestor_path trees.shape C w lone_row
        ∙ ap (λ (k : ℕ). on_path trees.level.now k w) (sym P-is))

    pub lone_above_asks : PathIn trees up P (at trees.level.now C) out
    lone_above_asks = path_asks P (at trees.level.now C) (omega (arith, P-low, lone_row))
        (ap (λ (k : ℕ). length (path_rows trees.level.now trees.count k)) P-is
        ∙ path_above_count trees.shape C lone_row)
        lone_above_rows

  module _ (ne7 : axis ≡ 7 → ⊥) (ne6 : axis ≡ 6 → ⊥) where
    -- a row is reached exactly if it is the parent
    reached : (w : ℕ) → any_on axis trees.level.now cs w ≡ eqb P (suc w)
    reached w =
        any_one axis trees.level.now cs w lone_one
        ∙ ap (λ (x : ℕ). on_axis x trees.level.now C w) (parent_left (length cs) axis test.want h.lone ne7 ne6)
        ∙ axis_parent trees.level.now C w
        ∙ ap (λ (k : ℕ). eqb k (suc w)) (sym P-is)

    other : (w : ℕ) → (P ≡ suc w → ⊥) → any_on axis trees.level.now cs w ≡ false
    other w z = reached w ∙ ne_eqb P (suc w) z

    pub lone_parent_none : P ≡ 0 → Wrote (one_role axis trees.level.now trees.count fit cs) out 0 out
    lone_parent_none z = cover_done (cover_start h.asks) (λ w l m. other w (λ (y : P ≡ suc w). omega arith))

    module _ (p : ℕ) (e : P ≡ suc p) where
      -- no row before the parent is reached
      before : Covered axis trees.level.now trees.count fit cs out out 0 p
      before = cover_skip (cover_start h.asks) p (omega arith) (omega (arith, P-low, lone_row))
          (λ w l m. other w (λ (y : P ≡ suc w). omega arith))

      here : (w : ℕ) → p ≤ w → w < P → any_on axis trees.level.now cs w ≡ true
      here w l m = reached w ∙ eq-eqb P (suc w) (omega arith)

      pub lone_parent_asks : RangeIn test p P out 0
      lone_parent_asks = cover_asks h.asks before P (omega arith) (omega (arith, P-low, lone_row)) here

      pub lone_parent_done : {r : ℕ} {new : List ℕ} → Appended (rows_in fit p P) out 0 r new
          → Wrote (one_role axis trees.level.now trees.count fit cs) out r new
      lone_parent_done a =
          cover_done (cover_range before P (omega arith) (omega (arith, P-low, lone_row)) here a)
          (λ w l m. other w (λ (y : P ≡ suc w). omega arith))
