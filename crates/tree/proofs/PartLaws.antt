-- A tree of a table as a table of its own, `tree_at`: RULES 02, E2. Its rows are those from its root on, as many as the
-- root's size says and one; their levels and sizes make a tree again, `part_shape`; it is sound, `part_sound`. Parents,
-- ancestors and axes in it are those of the table: `part_parent`, `part_ancestor`, `part_axis`. Assumes nothing.
use mathlib.Core.Path.{◌≡◌, refl, sym, ap, ap₂, ◌∙◌}
use mathlib.Core.Logic.{⊎_elim}
use mathlib.Core.Bool.{Bool, true, ◌&&◌}
use mathlib.Core.List.{List}
use Prim.Native.Nat.{ℕ, zero, suc, ◌+◌, ◌-◌, ◌<◌, ◌≤◌}
use native.Mathlib.Nat.{eq-or-lt_of_le, le_antisymm}
use native.Mathlib.Omega.{arith}
use borrow.Author.Tests.{eqb-true, eq-eqb, ne_eqb, ltb-true, lt-ltb, leb-true, le-leb}
use lib.Dec.{eqb, ltb, leb}
use lib.ListN.{length, length-take, length-drop}
use lib.Seq.{get_or-take, get_or-drop}
use Rattle.tree.specs.Search.{least}
use Rattle.tree.specs.Table.{Table, at}
use Rattle.tree.specs.Sound.{size_of}
use Rattle.tree.specs.Rules.{Shape, Sound}
use Rattle.tree.specs.Tree.{parent, ancestor, siblings, same_tree}
use Rattle.tree.specs.Axis.{following, preceding, on_axis}
use Rattle.tree.specs.Kept.{drops}
use Rattle.tree.specs.Trees.{part, tree_at}
use Rattle.tree.proofs.SearchLaws.{least_at, least_le, least_below, least_passes, least_ext}
use Rattle.tree.proofs.TreeLaws.{less?, is_parent, parent_is, under_parent}
use Rattle.tree.proofs.SoundLaws.{shape_steps, sound_shape}
use Rattle.tree.proofs.AxisLaws.{same_test, ancestor_is}
use Rattle.tree.proofs.RootLaws.{tree_fits, tree_next, tree_range, under_tree, same_tree_lem, is_root}
use Rattle.tree.proofs.OneTreeLaws.{lone_same}
use Rattle.tree.proofs.NodeSizes.{size_by_rows}

-- what a part holds
pub part_at : (r m : ℕ) (xs : List ℕ) (i : ℕ) → i < m → at (part r m xs) i ≡ at xs (r + i)
part_at r m xs i l = rw (get_or-take, get_or-drop)

-- a part of a column that has the rows
pub part_length : (r m : ℕ) (xs : List ℕ) → r + m ≤ length xs → m ≤ length (part r m xs)
part_length r m xs h = simp (length-take, length-drop) (omega arith)

-- a search that would stop at a
least_cut : (f : ℕ → Bool) (a b : ℕ) → a ≤ b → (a < b → f a ≡ true) → least f a ≡ least f b
least_cut f a b l h = ⊎_elim
    (λ (x : least f a < a). sym (least_at f b (least f a) (omega arith) (λ k y. least_below f a k y)
    (least_passes f a x)))
    (λ (x : a ≤ least f a). ⊎_elim (λ (e : a ≡ b). ap (least f) e)
    (λ (y : a < b). let z : least f a ≡ a = le_antisymm (least_le f a) x in
    z ∙ sym (least_at f b a y (λ k v. least_below f a k (omega arith)) (h y)))
    (eq-or-lt_of_le l))
    (less? (least f a) a)

-- the parent's number, r rows further on
abbrev up : ℕ → ℕ → ℕ
up r zero = zero
up r (suc p) = suc (r + p)

-- tests of numbers that are r more
ltb_up : (r c w : ℕ) → ltb (r + c) (r + w) ≡ ltb c w
ltb_up r c w = same_test _ _ (λ e. lt-ltb c w (omega (arith, ltb-true (r + c) (r + w) e)))
    (λ e. lt-ltb (r + c) (r + w) (omega (arith, ltb-true c w e)))

leb_up : (r c w : ℕ) → leb (r + c) (r + w) ≡ leb c w
leb_up r c w = same_test _ _ (λ e. le-leb c w (omega (arith, leb-true (r + c) (r + w) e)))
    (λ e. le-leb (r + c) (r + w) (omega (arith, leb-true c w e)))

pub eqb_up : (r c w : ℕ) → eqb (r + c) (r + w) ≡ eqb c w
eqb_up r c w = same_test _ _ (λ e. eq-eqb c w (omega (arith, eqb-true (r + c) (r + w) e)))
    (λ e. eq-eqb (r + c) (r + w) (omega (arith, eqb-true c w e)))

eqb_suc : (a b : ℕ) → eqb (suc a) (suc b) ≡ eqb a b
eqb_suc a b = same_test _ _ (λ e. eq-eqb a b (omega (arith, eqb-true (suc a) (suc b) e)))
    (λ e. eq-eqb (suc a) (suc b) (omega (arith, eqb-true a b e)))

module _ {size level : List ℕ} {n : ℕ} (s : Shape size level n) (r : ℕ) (l : r < n) (z : at level r ≡ 0) where
  -- the rows of the tree
  abbrev many : ℕ
  many = at size r + 1

  fits : r + (at size r + 1) ≤ n
  fits = omega (arith, tree_fits s r l)

  levels_at : (i : ℕ) → i < at size r + 1 → at (part r (at size r + 1) level) i ≡ at level (r + i)
  levels_at i h = part_at r (at size r + 1) level i h

  -- the sizes are those of the part's levels
  part_size : (i : ℕ) → i < at size r + 1
      → at size (r + i) ≡ size_of (part r (at size r + 1) level) (at size r + 1) i
  part_size i h =
      let g = fits in
      let f : ℕ → Bool = λ k. leb (at level (suc (r + i + k))) (at level (r + i)) in
      let a : ℕ = at size r + 1 - suc i in
      let b : ℕ = n - suc (r + i) in
      let len : at size r + 1 ≤ length (part r (at size r + 1) level) =
      part_length r (at size r + 1) level (omega (arith, s.in_level)) in
      s.sizes (r + i) (omega arith)
      ∙ size_by_rows level n (r + i) s.in_level (omega arith)
      ∙ sym (least_cut f a b (omega arith) (λ (y : at size r + 1 - suc i < n - suc (r + i)).
      let v : at level (suc (r + at size r)) ≡ 0 = tree_next s r l z (omega arith) in
      let x : suc (r + i + (at size r + 1 - suc i)) ≡ suc (r + at size r) = omega arith in
      le-leb (at level (suc (r + i + (at size r + 1 - suc i)))) (at level (r + i)) (omega (arith, ap (at level) x))))
      ∙ least_ext f (λ k. leb (at (part r (at size r + 1) level) (suc (i + k))) (at (part r (at size r + 1) level) i)) a
      (λ k y. ap₂ leb
      (ap (at level) (let x : suc (r + i + k) ≡ r + suc (i + k) = omega arith in x)
      ∙ sym (levels_at (suc (i + k)) (omega arith)))
      (sym (levels_at i h)))
      ∙ sym (size_by_rows (part r (at size r + 1) level) (at size r + 1) i len h)

  -- levels and sizes of the part make a tree
  pub part_shape : Shape (part r (at size r + 1) size) (part r (at size r + 1) level) (at size r + 1)
  part_shape =
      let g = fits in
      record {
        some = omega arith;
        few = omega (arith, s.few);
        in_size = part_length r (at size r + 1) size (omega (arith, s.in_size));
        in_level = part_length r (at size r + 1) level (omega (arith, s.in_level));
        levels = λ i h. record {
          root = λ e. levels_at i h ∙ ap (at level) (let x : r + i ≡ r = omega arith in x) ∙ z;
          step = λ p.
              let q = (s.levels (r + i) (omega arith)).step (omega arith) in
              let x : at level (r + i - 1) ≡ at level (r + (i - 1)) =
              ap (at level) (let y : r + i - 1 ≡ r + (i - 1) = omega arith in y) in
              omega (arith, levels_at i h, levels_at (i - 1) (omega arith));
          low = omega (arith, levels_at i h, (s.levels (r + i) (omega arith)).low);
        };
        sizes = λ i h. part_at r (at size r + 1) size i h ∙ part_size i h;
      }

  -- no row of the part but its first has level 0
  part_lone : (i : ℕ) → i < at size r + 1 → 0 < i → 1 ≤ at (part r (at size r + 1) level) i
  part_lone i h p =
      let g = fits in
      let e = (tree_range s r (r + i) l (omega arith) z).1 (omega arith, omega arith) in
      let q = is_root level (r + i) r e in
      ⊎_elim (λ (x : 0 < at (part r (at size r + 1) level) i). x)
      (λ (x : at (part r (at size r + 1) level) i ≤ 0).
      absurd (q.closest (r + i) (omega arith) (omega arith) (omega (arith, levels_at i h))))
      (less? 0 (at (part r (at size r + 1) level) i))

  -- ancestors
  pub part_ancestor : (c w : ℕ) → c < at size r + 1 → w < at size r + 1
      → ancestor (part r (at size r + 1) level) c w ≡ ancestor level (r + c) (r + w)
  part_ancestor c w h i =
      let g = fits in
      ancestor_is part_shape c w h i
      ∙ ap₂ (λ (a b : Bool). a && b) (sym (ltb_up r c w))
      (ap (λ (y : ℕ). leb w (c + y)) (part_at r (at size r + 1) size c h)
      ∙ sym (leb_up r w (c + at size (r + c)))
      ∙ ap (leb (r + w)) (let x : r + (c + at size (r + c)) ≡ r + c + at size (r + c) = omega arith in x))
      ∙ sym (ancestor_is s (r + c) (r + w) (omega arith) (omega arith))

  -- parents
  pub part_parent : (w : ℕ) → w < at size r + 1 → parent level (r + w) ≡ up r (parent (part r (at size r + 1) level) w)
  part_parent w h = go (parent (part r (at size r + 1) level) w) refl (parent level (r + w)) refl
    where
      go : (q : ℕ) → parent (part r (at size r + 1) level) w ≡ q → (v : ℕ) → parent level (r + w) ≡ v
          → parent level (r + w) ≡ up r q
      go (suc p) e v y =
          let a = is_parent (part r (at size r + 1) level) w p e in
          let b = a.earlier in
          parent_is level (r + w) (r + p) (record {
            earlier = omega arith;
            less = omega (arith, a.less, levels_at p (omega arith), levels_at w h);
            closest = λ k x j d.
                let i : r + (k - r) ≡ k = omega arith in
                let o = ap (at level) i in
                a.closest (k - r) (omega arith) (omega arith)
                (omega (arith, levels_at (k - r) (omega arith), levels_at w h));
          })
      go zero e zero y = y
      go zero e (suc v) y =
          let g = fits in
          let a = is_parent level (r + w) v y in
          let b = a.earlier in
          let u = under_tree level v (r + w) (under_parent level n (shape_steps s) (r + w) v (omega arith) y) in
          let x = (tree_range s r (r + w) l (omega arith) z).1 (omega arith, omega arith) in
          let j = (is_root level v r (sym u ∙ x)).earlier in
          let i : r + (v - r) ≡ v = omega arith in
          let o = ap (at level) i in
          let f : parent (part r (at size r + 1) level) w ≡ suc (v - r) =
          parent_is (part r (at size r + 1) level) w (v - r) (record {
            earlier = omega arith;
            less = omega (arith, a.less, levels_at (v - r) (omega arith), levels_at w h);
            closest = λ k q m d. a.closest (r + k) (omega arith) (omega arith)
                (omega (arith, levels_at k (omega arith), levels_at w h));
          }) in
          absurd (omega arith)

  -- siblings
  part_siblings : (c w : ℕ) → c < at size r + 1 → w < at size r + 1
      → siblings (part r (at size r + 1) level) c w ≡ siblings level (r + c) (r + w)
  unfolding siblings
  part_siblings c w h i =
      go (parent (part r (at size r + 1) level) c) (parent (part r (at size r + 1) level) w)
      ∙ sym (ap₂ (λ (a b : ℕ). ltb 0 a && eqb b a) (part_parent c h) (part_parent w i))
    where
      go : (a b : ℕ) → (ltb 0 a && eqb b a) ≡ (ltb 0 (up r a) && eqb (up r b) (up r a))
      go zero b = refl
      go (suc a) zero =
          ap₂ (λ (x y : Bool). x && y) (lt-ltb 0 (suc a) (omega arith) ∙ sym (lt-ltb 0 (suc (r + a)) (omega arith)))
          (ne_eqb 0 (suc a) (λ e. omega arith) ∙ sym (ne_eqb 0 (suc (r + a)) (λ e. omega arith)))
      go (suc a) (suc b) =
          ap₂ (λ (x y : Bool). x && y) (lt-ltb 0 (suc a) (omega arith) ∙ sym (lt-ltb 0 (suc (r + a)) (omega arith)))
          (eqb_suc b a ∙ sym (eqb_up r b a) ∙ sym (eqb_suc (r + b) (r + a)))

  -- whether c is one more than the parent
  part_child : (c w : ℕ) → w < at size r + 1
      → eqb (parent (part r (at size r + 1) level) w) (suc c) ≡ eqb (parent level (r + w)) (suc (r + c))
  part_child c w i =
      go (parent (part r (at size r + 1) level) w) ∙ sym (ap (λ (a : ℕ). eqb a (suc (r + c))) (part_parent w i))
    where
      go : (a : ℕ) → eqb a (suc c) ≡ eqb (up r a) (suc (r + c))
      go zero = ne_eqb 0 (suc c) (λ e. omega arith) ∙ sym (ne_eqb 0 (suc (r + c)) (λ e. omega arith))
      go (suc a) = eqb_suc a c ∙ sym (eqb_up r a c) ∙ sym (eqb_suc (r + a) (r + c))

  -- rows of the tree are in the same tree, in the part and in the table
  part_same : (c w : ℕ) → c < at size r + 1 → w < at size r + 1
      → same_tree (part r (at size r + 1) level) c w ≡ same_tree level (r + c) (r + w)
  part_same c w h i =
      let g = fits in
      lone_same (part r (at size r + 1) level) (at size r + 1) part_lone c w h i
      ∙ sym ((same_tree_lem level (r + c) (r + w)).1 (
      (tree_range s r (r + c) l (omega arith) z).1 (omega arith, omega arith)
      ∙ sym ((tree_range s r (r + w) l (omega arith) z).1 (omega arith, omega arith))))

  -- 02: an axis in the tree alone is the axis in the table
  pub part_axis : (x c w : ℕ) → c < at size r + 1 → w < at size r + 1
      → on_axis x (part r (at size r + 1) level) c w ≡ on_axis x level (r + c) (r + w)
  unfolding on_axis following preceding
  part_axis x c w h i =
      simp (
        part_same c w h i,
        part_siblings c w h i,
        part_child c w i,
        part_child w c h,
        part_ancestor c w h i,
        part_ancestor w c i h,
        ← ltb_up r c w,
        ← ltb_up r w c,
        ← eqb_up r w c,
      )

  -- 02: and so is which pairs are redundant
  pub part_drops : (x c d : ℕ) → c < at size r + 1 → d < at size r + 1
      → drops x (part r (at size r + 1) level) c d ≡ drops x level (r + c) (r + d)
  unfolding drops
  part_drops x c d h i =
      simp (part_same c d h i, part_ancestor c d h i, part_ancestor d c i h, ← ltb_up r d c)

-- 02: each tree by itself is a sound table
pub part_sound : (t : Table) → Sound t → (r : ℕ) → r < t.count → at t.level r ≡ 0 → Sound (tree_at t r)
part_sound t s r l z =
    let m : ℕ = at t.size r + 1 in
    let g : r + at t.size r < t.count = tree_fits (sound_shape t s) r l in
    let u = s.in_use in
    let p = part_shape (sound_shape t s) r l z in
    record {
      in_use = record {
        some = omega arith;
        few = omega (arith, u.few);
        in_key = part_length r (at t.size r + 1) t.key (omega (arith, u.in_key));
        in_size = part_length r (at t.size r + 1) t.size (omega (arith, u.in_size));
        in_level = part_length r (at t.size r + 1) t.level (omega (arith, u.in_level));
        in_kind = part_length r (at t.size r + 1) t.kind (omega (arith, u.in_kind));
        in_name = part_length r (at t.size r + 1) t.name (omega (arith, u.in_name));
      };
      rows = λ i h.
          let o = s.rows (r + i) (omega arith) in
          let kind = part_at r (at t.size r + 1) t.kind i h in
          let size = part_at r (at t.size r + 1) t.size i h in
          let level = part_at r (at t.size r + 1) t.level i h in
          let name = part_at r (at t.size r + 1) t.name i h in
          let key = part_at r (at t.size r + 1) t.key i h in
          record {
            levels = p.levels i h;
            sizes = p.sizes i h;
            kinds = rw (kind, size, level) o.kinds;
            names = rw (kind, name) o.names;
            keys = record {
              nonzero = λ e. o.keys.nonzero (sym key ∙ e);
              unlike = λ j y e. o.keys.unlike (r + j) (omega arith)
                  (sym (part_at r (at t.size r + 1) t.key j (omega arith)) ∙ e ∙ key);
            };
          };
    }
