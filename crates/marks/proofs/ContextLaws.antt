-- One context more, on any axis. What is known of it: `turn_row`, `turn_fits`, `turn_root`, `turn_parent`,
-- `parent_fits`. From the rows that it put in to the rows of all contexts so far: `turn_take`, `turn_drop`, and for
-- a context that has nothing `none_take`, `none_drop`. The first turn and the last: `marks-..`, `take_done`,
-- `drop_done`. Assumes nothing.
use Prim.Native.Nat.{ℕ, suc, ◌+◌, ◌-◌, ◌<◌, ◌≤◌}
use mathlib.Core.Path.{◌≡◌, sym, ap, subst, ◌∙◌}
use mathlib.Core.Bool.{Bool, true, false, ◌&&◌, and-false, false≢true}
use mathlib.Core.List.{List, ◌∷◌}
use native.Mathlib.Numerals.{add-one}
use native.Mathlib.Omega.{arith}
use borrow.Author.Tests.{lt-ltb}
use lib.Dec.{ltb}
use lib.ListN.{length, take, drop}
use lib.Seq.{drop-cons, drop-length, take_all}
use Rattle.tree.specs.Table.{at}
use Rattle.tree.specs.Tree.{parent}
use Rattle.tree.specs.Axis.{on_axis}
use Rattle.tree.proofs.TreeLaws.{parent_below}
use Rattle.tree.proofs.SoundLaws.{shape_fits, both, both_of}
use Rattle.scan.specs.declared.trees.Trees.{Trees}
use Rattle.scan.specs.OneRole.{any_on, Parents}
use Rattle.marks.specs.RowSet.{has, Marked, Marks}
use Rattle.marks.specs.Mark.{Joined, Turn}
use Rattle.marks.proofs.MarkLaws.{any_take_more, any_also, joined_none, marked_none, marked_as, marked_more}

-- where each context so far that reaches x reaches y too, the set has y if it has x
pub marked_also : {axis : ℕ} {trees : Trees} {cs words : List ℕ}
    → Marked axis trees cs words → (x y : ℕ) → x < trees.count → y < trees.count
    → ((k : ℕ) → k < length cs → on_axis axis trees.level.now (at cs k) x ≡ true
    → on_axis axis trees.level.now (at cs k) y ≡ true)
    → has words x ≡ true → has words y ≡ true
marked_also {axis} {trees} {cs} m x y a b h t =
    let few : trees.count ≤ 4096 = trees.shape.few in
    m.rows y (omega arith)
    ∙ both_of (lt-ltb y trees.count b) (any_also axis trees.level.now cs x y h
    (both (ltb x trees.count) _ (sym (m.rows x (omega arith)) ∙ t)).1)

module _ {axis : ℕ} {trees : Trees} {cs : List ℕ} {i : ℕ} {done old : List ℕ}
    (t : Turn axis trees cs i done old) where
  -- the context
  abbrev C : ℕ
  C = at cs i

  -- it is a row in use, and so are its descendants
  pub turn_row : C < trees.count
  turn_row = t.contexts.inside i t.index

  pub turn_fits : C + at trees.size.now C < trees.count
  turn_fits = shape_fits trees.shape C turn_row

  -- its parent, as the column has it
  pub turn_root : {up : List ℕ} → Parents trees.level.now trees.count up → at up C ≡ 0 → parent trees.level.now C ≡ 0
  turn_root p e = sym (p.parents C turn_row) ∙ e

  pub turn_parent : {up : List ℕ} → Parents trees.level.now trees.count up → (at up C ≡ 0 → ⊥)
      → parent trees.level.now C ≡ suc (at up C - 1)
  turn_parent p e = omega (arith, p.parents C turn_row)

  -- the parent's descendants are rows in use
  pub parent_fits : (p : ℕ) → parent trees.level.now C ≡ suc p → p + at trees.size.now p < trees.count
  parent_fits p e = shape_fits trees.shape p (omega (arith, parent_below trees.level.now C p e, turn_row))

  -- no row goes in
  pub none_joined : Joined (λ w. false) old old
  none_joined = joined_none (λ w. false) (λ w l e. absurd (false≢true e))

  module _ (f : ℕ → Bool) {new : List ℕ} (j : Joined f old new)
      (h : (w : ℕ) → w < 4096 → f w ≡ (ltb w trees.count && on_axis axis trees.level.now C w)) where
    turn_more : Marked axis trees (C ∷ done) new
    turn_more = marked_more f C t.marked j h

    -- from the first context on
    pub turn_take : done ≡ take i cs → Marked axis trees (take (i + 1) cs) new
    turn_take e = marked_as
        (λ w. any_take_more axis trees.level.now cs i w t.index
        ∙ ap (λ (ds : List ℕ). any_on axis trees.level.now (C ∷ ds) w) (sym e))
        turn_more

    -- from the last context on
    pub turn_drop : done ≡ drop (i + 1) cs → Marked axis trees (drop i cs) new
    turn_drop e = subst (λ (ds : List ℕ). Marked axis trees ds new)
        (ap (λ (ds : List ℕ). C ∷ ds) e
        ∙ ap (λ (k : ℕ). C ∷ drop k cs) (add-one i)
        ∙ sym (drop-cons cs i 0 t.index))
        turn_more

  module _ (h : (w : ℕ) → on_axis axis trees.level.now C w ≡ false) where
    none_on : (w : ℕ) → w < 4096 → false ≡ (ltb w trees.count && on_axis axis trees.level.now C w)
    none_on w l = sym (ap (λ (b : Bool). ltb w trees.count && b) (h w) ∙ and-false (ltb w trees.count))

    pub none_take : done ≡ take i cs → Marked axis trees (take (i + 1) cs) old
    none_take = turn_take (λ w. false) none_joined none_on

    pub none_drop : done ≡ drop (i + 1) cs → Marked axis trees (drop i cs) old
    none_drop = turn_drop (λ w. false) none_joined none_on

-- ── all contexts ──
module _ (axis : ℕ) {trees : Trees} {cs words : List ℕ} (h : Marks trees cs words) where
  -- no context yet
  pub marks_first : Marked axis trees (take 0 cs) words
  marks_first = marked_none axis trees h.blank

  pub marks_last : Marked axis trees (drop (length cs) cs) words
  marks_last = subst (λ (ds : List ℕ). Marked axis trees ds words) (sym (drop-length cs)) marks_first

  -- the next context
  pub marks_turn : {i : ℕ} {done now : List ℕ} → i < length cs → Marked axis trees done now
      → Turn axis trees cs i done now
  marks_turn l m = record { contexts = h.contexts; index = l; marked = m }

-- no context is left
module _ {axis : ℕ} {trees : Trees} {words : List ℕ} (cs : List ℕ) (i : ℕ) where
  pub take_done : length cs ≤ i → Marked axis trees (take i cs) words → Marked axis trees cs words
  take_done l m = subst (λ (ds : List ℕ). Marked axis trees ds words) (take_all i cs l) m

  pub drop_done : i ≤ 0 → Marked axis trees (drop i cs) words → Marked axis trees cs words
  drop_done l m =
      let e : i ≡ 0 = omega arith in
      subst (λ (k : ℕ). Marked axis trees (drop k cs) words) e m
