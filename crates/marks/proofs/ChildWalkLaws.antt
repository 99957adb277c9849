-- The children of a row in rows whose levels and sizes make a tree, met by hops over subtrees: `child_first`,
-- `child_next`, `child_none`, `child_empty`. The walk that puts them into a set, word by word: `walk_start`,
-- `walk_gathers`, `walk_next`, `walk_done`, and where it has nothing to do, `walk_nothing`, `walk_met`. Its rows are in
-- use: `row_in_use`; and have no parent before the row: `in_parent`. Assumes nothing.
use Prim.Native.Nat.{ℕ, suc, ◌+◌, ◌*◌, ◌/◌, ◌<◌, ◌≤◌}
use mathlib.Core.Path.{◌≡◌, refl, ap, ◌∙◌}
use mathlib.Core.Logic.{⊎_elim}
use mathlib.Core.Bool.{Bool, true, ◌&&◌, ◌||◌}
use mathlib.Core.List.{List}
use native.Mathlib.Nat.{le_refl, eq-or-lt_of_le}
use native.Mathlib.Numerals.{add-one}
use native.Mathlib.Omega.{arith}
use borrow.Author.Tests.{eqb-true, eq-eqb, ltb-true, lt-ltb, leb-true, le-leb}
use lib.Dec.{eqb, ltb, leb}
use Rattle.tree.specs.Table.{at}
use Rattle.tree.specs.Tree.{parent}
use Rattle.tree.specs.Rules.{Shape}
use Rattle.tree.proofs.TreeLaws.{Under, less?, parent_less, parent_below, from_parent}
use Rattle.tree.proofs.SoundLaws.{shape_steps, shape_fits}
use Rattle.tree.proofs.SubtreeLaws.{in_under, under_in, child_is}
use Rattle.tree.proofs.SoundLaws.{both, both_of, either, either_left, either_right}
use Rattle.tree.proofs.AxisLaws.{same_test}
use Rattle.scan.specs.declared.trees.Trees.{Trees}
use Rattle.marks.specs.RowSet.{has, in_word}
use Rattle.marks.specs.Mark.{child_in, Joined, AddsChildren, Gathers, Gathered}
use Rattle.marks.proofs.MarkLaws.{joined_none, joined_as, joined_more}

-- ── children ──
module _ {size level : List ℕ} {n : ℕ} (s : Shape size level n) where
  -- a row not past the descendants of a row is in use
  pub row_in_use : {p e : ℕ} → p < n → e ≤ p + at size p + 1 → (v : ℕ) → v < e → v < n
  row_in_use {p} m h v q = omega (arith, shape_fits s p m)

  -- none of the next size rows has a parent before the row
  pub in_parent : (p d : ℕ) → p < n → p < d → d ≤ p + at size p → suc p ≤ parent level d
  in_parent p d m a b = ⊎_elim
      (λ (x : parent level d < suc p).
      let l : d < n = omega (arith, shape_fits s p m) in
      absurd (omega (
        arith,
        from_parent level n (shape_steps s) d l p (omega arith) a,
        (in_under s p d m a b).deeper d a (le_refl d),
      )))
      (λ x. x)
      (less? (parent level d) (suc p))

  -- the next row is a child, where there are any
  pub child_first : (p : ℕ) → p < n → 0 < at size p → parent level (p + 1) ≡ suc p
  child_first p m a =
      let u : Under level p (p + 1) = in_under s p (p + 1) m (omega arith) (omega arith) in
      let d : at level p < at level (p + 1) = u.deeper (p + 1) (omega arith) (le_refl (p + 1)) in
      let g : at level (suc p) ≤ at level p + 1 = shape_steps s p (omega (arith, shape_fits s p m)) in
      let q : at level (p + 1) ≡ at level (suc p) = ap (at level) (add-one p) in
      child_is s p (p + 1) m (omega arith) (omega arith) (omega arith)

  -- no row below a child is a child of the same row
  pub child_none : (p w v : ℕ) → w < n → parent level w ≡ suc p → w < v → v ≤ w + at size w
      → parent level v ≡ suc p → ⊥
  child_none p w v l e a b f =
      let u : Under level w v = in_under s w v l a b in
      omega (arith, u.deeper v a (le_refl v), parent_less level w p e, parent_less level v p f)

  -- the row after the descendants of a row is no deeper than it
  stop_level : (w v : ℕ) → w < n → v < n → v ≡ w + at size w + 1 → at level v ≤ at level w
  stop_level w v l m q = ⊎_elim
      (λ (d : at level w < at level v). absurd (omega (arith, under_in s w v l m (deep d))))
      (λ d. d)
      (less? (at level w) (at level v))
    where
      deep : at level w < at level v → Under level w v
      deep d = record {
        after = omega arith;
        deeper = λ k x y. ⊎_elim
            (λ (e : k ≡ v). let z : at level k ≡ at level v = ap (at level) e in omega arith)
            (λ (h : k < v). (in_under s w k l x (omega arith)).deeper k x (le_refl k))
            (eq-or-lt_of_le y);
      }

  -- the row after a child's descendants is the next child, where it is one of the next size rows
  pub child_next : (p w : ℕ) → p < n → w < n → parent level w ≡ suc p → w + at size w + 1 ≤ p + at size p
      → parent level (w + at size w + 1) ≡ suc p
  child_next p w m l e b =
      let v : ℕ = w + at size w + 1 in
      let a : p < w = parent_below level w p e in
      let h : v < n = omega (arith, shape_fits s p m) in
      let u : Under level p v = in_under s p v m (omega arith) b in
      child_is s p v m (omega arith) b
      (omega (arith, u.deeper v (omega arith) (le_refl v), stop_level w v l h refl, parent_less level w p e))

-- ── the walk ──
-- what `child_in` tests
pub record ChildIn (level : List ℕ) (p a e w : ℕ) : Type 0 where
  pub child : parent level w ≡ suc p
  pub from : a ≤ w
  pub before : w < e

module _ (level : List ℕ) (p a e w : ℕ) where
  pub child_in_lem : child_in level p a e w ≡ true → ChildIn level p a e w
  unfolding child_in
  child_in_lem h =
      let x : (eqb (parent level w) (suc p) ≡ true) × ((leb a w && ltb w e) ≡ true) = both _ _ h in
      let y : (leb a w ≡ true) × (ltb w e ≡ true) = both _ _ x.1 in
      record { child = eqb-true _ _ x.0; from = leb-true _ _ y.0; before = ltb-true _ _ y.1 }

  pub in_child : ChildIn level p a e w → child_in level p a e w ≡ true
  unfolding child_in
  in_child h = both_of (eq-eqb _ _ h.child) (both_of (le-leb _ _ h.from) (lt-ltb _ _ h.before))

-- no row is both from a on and before a
pub child_empty : (level : List ℕ) (p a w : ℕ) → child_in level p a a w ≡ true → ⊥
child_empty level p a w t = let x : ChildIn level p a a w = child_in_lem level p a a w t in omega arith

-- the children from a on before r are those before v and those from v on
child_split : (level : List ℕ) (p a v r w : ℕ) → a ≤ v → v ≤ r
    → (child_in level p v r w || child_in level p a v w) ≡ child_in level p a r w
child_split level p a v r w l h = same_test _ _
    (λ t. ⊎_elim
    (λ z. let x : ChildIn level p v r w = child_in_lem level p v r w z in
    in_child level p a r w record { child = x.child; from = omega arith; before = x.before })
    (λ z. let x : ChildIn level p a v w = child_in_lem level p a v w z in
    in_child level p a r w record { child = x.child; from = x.from; before = omega arith })
    (either (child_in level p v r w) (child_in level p a v w) t))
    (λ t. let x : ChildIn level p a r w = child_in_lem level p a r w t in ⊎_elim
    (λ (z : w < v). either_right (child_in level p v r w)
    (in_child level p a v w record { child = x.child; from = x.from; before = z }))
    (λ (z : v ≤ w). either_left (child_in level p a v w)
    (in_child level p v r w record { child = x.child; from = z; before = x.before }))
    (less? w v))

-- the children before v are in, all before e, and v is the next child, or not before e
pub record ChildrenAdded (level : List ℕ) (p a e : ℕ) (old words : List ℕ) (v : ℕ) : Type 0 where
  pub low : a ≤ v
  pub child : v < e → parent level v ≡ suc p
  pub inside : (w : ℕ) → child_in level p a v w ≡ true → w < e
  pub joined : Joined (child_in level p a v) old words

module _ {trees : Trees} {p a e : ℕ} {old : List ℕ} (h : AddsChildren trees p a e old) where
  -- there is no child
  pub walk_nothing : e ≤ a → Joined (child_in trees.level.now p a e) old old
  walk_nothing q = joined_none (child_in trees.level.now p a e) (λ w l t.
      let x : ChildIn trees.level.now p a e w = child_in_lem trees.level.now p a e w t in
      absurd (omega arith))

  -- the first child is in
  pub walk_met : a < e → has old a ≡ true → Joined (child_in trees.level.now p a e) old old
  walk_met q t = joined_none (child_in trees.level.now p a e) (λ w l. h.whole q t w)

  pub walk_start : ChildrenAdded trees.level.now p a e old old a
  walk_start = record {
    low = le_refl a;
    child = h.child;
    inside = λ w t. absurd (child_empty trees.level.now p a w t);
    joined = joined_none (child_in trees.level.now p a a) (λ w l t. absurd (child_empty trees.level.now p a w t));
  }

  module _ {words : List ℕ} {v : ℕ} (s : ChildrenAdded trees.level.now p a e old words v) where
    pub walk_done : e ≤ v → Joined (child_in trees.level.now p a e) old words
    walk_done q = joined_as (child_in trees.level.now p a e) s.joined
        (λ w l t. let x : ChildIn trees.level.now p a v w = child_in_lem trees.level.now p a v w t in
        in_child trees.level.now p a e w record { child = x.child; from = x.from; before = s.inside w t })
        (λ w l t. let x : ChildIn trees.level.now p a e w = child_in_lem trees.level.now p a e w t in
        either_left (has old w)
        (in_child trees.level.now p a v w record { child = x.child; from = x.from; before = omega arith }))

    module _ (q : v < e) {stop : ℕ} (m : stop ≤ e) where
      -- the next word's children can be gathered
      pub walk_gathers : v < stop → stop ≤ 64 * (v / 64) + 64 → Gathers trees p v stop
      walk_gathers b g = record {
        row = h.row;
        first = b;
        child = s.child q;
        inside = omega (arith, h.inside);
        word = g;
      }

      -- they go in
      pub walk_next : {r bits : ℕ} {new : List ℕ} → Gathered trees p v stop r bits
          → Joined (in_word (64 * (v / 64)) bits) words new → ChildrenAdded trees.level.now p a e old new r
      walk_next {r} {bits} g j = record {
        low = omega (arith, s.low, g.low);
        child = λ z. g.child (omega (arith, h.inside));
        inside = λ w t. ⊎_elim
            (λ z. omega (arith, g.inside w z))
            (λ z. s.inside w z)
            (either (child_in trees.level.now p v r w) (child_in trees.level.now p a v w)
            (child_split trees.level.now p a v r w s.low g.low ∙ t));
        joined = joined_more (child_in trees.level.now p a r) s.joined j (λ w l.
            ap (λ (b : Bool). b || child_in trees.level.now p a v w) (g.bits w)
            ∙ child_split trees.level.now p a v r w s.low g.low);
      }
