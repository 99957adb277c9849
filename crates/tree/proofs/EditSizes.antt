-- 01's changed sizes, those of the parent and its ancestors, are the sizes of the new levels: `size_inserted`,
-- `size_deleted`. An ancestor's size reaches the row: `ancestor_size`, `ancestor_not`, `ancestor_larger`.
-- Assumes nothing.
use mathlib.Core.Path.{◌≡◌, refl, sym, ap, ap₂, ◌∙◌}
use mathlib.Core.Bool.{Bool, true, false, cond, ◌||◌, false≢true}
use mathlib.Core.List.{List, [], ◌∷◌, ◌++◌, append_assoc}
use Prim.Native.Nat.{ℕ, zero, suc, ◌+◌, ◌-◌, ◌<◌, ◌≤◌}
use native.Mathlib.Nat.{le_of_suc-le-suc, not-suc-le-zero}
use native.Mathlib.Omega.{arith}
use borrow.Author.Tests.{eq-eqb, ne_eqb, lt-ltb, ltb-true}
use lib.Dec.{eqb, ltb}
use lib.ListN.{length, take, drop, replicate}
use lib.Seq.{take_at, take-add, drop-cons, drop-drop}
use Rattle.tree.specs.Table.{Table, at}
use Rattle.tree.specs.Tree.{ancestor}
use Rattle.tree.specs.Edit.{opened, closed, changed, gap_of, inserted, deleted}
use Rattle.tree.specs.Rules.{Sound}
use Rattle.tree.proofs.TreeLaws.{ancestor_under}
use Rattle.tree.proofs.SoundLaws.{sound_shape, sound_steps, sound_descendants, either_left}
use Rattle.tree.proofs.SubtreeLaws.{nested}
use Rattle.tree.proofs.AxisLaws.{same_test}
use Rattle.tree.proofs.ColumnLaws.{opened_is, closed_is, changed_at, changed_take, changed_after}
use Rattle.tree.proofs.ColumnLaws.{length_changed}
use Rattle.tree.proofs.Nodes.{Node, rows, node_at, nodes_of, sizes}
use Rattle.tree.proofs.NodeLaws.{length_rows, length_sizes}
use Rattle.tree.proofs.NodeSizes.{nodes_at, size_of_nodes}
use Rattle.tree.proofs.SizeLaws.{resized, Rooted, row_size, sizes_ins, sizes_del}
use Rattle.tree.proofs.EditLaws.{row_in, row_found, gap_fits, gap_row, nodes_inserted, nodes_deleted}

-- ── a changed column and the pass by sizes ──
-- the rows before r that pass are those whose size reaches r
abbrev Reaches : (ℕ → Bool) → ℕ → List ℕ → Type 0
Reaches f r ss = (i : ℕ) → i < r → f i ≡ ltb (r - suc i) (at ss i)

-- then the rows before r change as the sizes do
changed_resized : (f : ℕ → Bool) (g : ℕ → ℕ) (r o c : ℕ) (ss : List ℕ) → r ≤ length ss → Reaches f r ss
    → ((s : ℕ) → g s ≡ s + c - o) → take r (changed f g ss) ≡ resized r o c ss
unfolding changed resized
changed_resized f g zero o c ss l a e = refl
changed_resized f g (suc r) o c [] l a e = absurd (not-suc-le-zero l)
changed_resized f g (suc r) o c (s ∷ ss) l a e =
    ap₂ (λ (b : Bool) (z : List ℕ). cond b (g s) s ∷ z)
    (a zero (omega arith) ∙ ap (λ (m : ℕ). ltb m s) (let z : suc r - 1 ≡ r = omega arith in z))
    (changed_resized (λ i. f (suc i)) g r o c ss (le_of_suc-le-suc l)
    (λ i h. a (suc i) (omega arith)
    ∙ ap (λ (m : ℕ). ltb m (at ss i)) (let z : suc r - suc (suc i) ≡ r - suc i = omega arith in z)) e)
    ∙ ap (λ (v : ℕ). cond (ltb r s) v s ∷ resized r o c ss) (e s)

-- where row r, with m rows after it that are its own, passes too, and no later one, and c rows come in after those
changed_opened : (f : ℕ → Bool) (r m c : ℕ) (ps ss : List ℕ) → r < length ss → at ss r ≡ m → Reaches f r ss
    → f r ≡ true → ((i : ℕ) → suc r ≤ i → f i ≡ false)
    → take (r + suc m) (changed f (λ s. s + c) ss) ++ (ps ++ drop (r + suc m) (changed f (λ s. s + c) ss))
    ≡ resized r (suc m) (suc (m + c)) ss ++ ((m + c) ∷ (take m (drop (suc r) ss) ++ (ps ++ drop m (drop (suc r) ss))))
changed_opened f r m c ps ss l e a b h =
    let g : ℕ → ℕ = λ s. s + c in
    let z : List ℕ = changed f g ss in
    let d : drop r z ≡ (m + c) ∷ drop (suc r) ss =
    drop-cons z r 0 (rw length_changed l)
    ∙ ap₂ (λ (v : ℕ) (w : List ℕ). v ∷ w)
    (changed_at f g ss r l ∙ ap₂ (λ (u : Bool) (v : ℕ). cond u (v + c) v) b e) (changed_after f g (suc r) ss h) in
    ap₂ (λ (u v : List ℕ). u ++ (ps ++ v))
    (take-add r (suc m) z
    ∙ ap₂ (λ (u v : List ℕ). u ++ take (suc m) v)
    (changed_resized f g r (suc m) (suc (m + c)) ss (omega arith) a (λ s. omega arith)) d)
    (sym (drop-drop (suc m) r z) ∙ ap (drop (suc m)) d)
    ∙ append_assoc (resized r (suc m) (suc (m + c)) ss) ((m + c) ∷ take m (drop (suc r) ss))
    (ps ++ drop m (drop (suc r) ss))

-- where no row from r on passes, and the rows from r on, by of them, go
changed_closed : (f : ℕ → Bool) (r by : ℕ) (ss : List ℕ) → r ≤ length ss → Reaches f r ss
    → ((i : ℕ) → r ≤ i → f i ≡ false)
    → take r (changed f (λ s. s - by) ss) ++ drop (r + by) (changed f (λ s. s - by) ss)
    ≡ resized r by 0 ss ++ drop (r + by) ss
changed_closed f r by ss l a h =
    ap₂ (λ (u v : List ℕ). u ++ v) (changed_resized f (λ s. s - by) r by 0 ss l a (λ s. omega arith))
    (changed_after f (λ s. s - by) (r + by) ss (λ i m. h i (omega arith)))

-- ── the ancestors of a row ──
module _ (t : Table) (s : Sound t) (r : ℕ) (h : r < t.count) where
  -- a row before r is its ancestor exactly if its size reaches r
  pub ancestor_size : (i : ℕ) → i < r → ancestor t.level i r ≡ ltb (r - suc i) (at t.size i)
  ancestor_size i l =
      same_test _ _
      (λ e. let d = ((sound_descendants t s i r (omega arith) h).0 e).1 in
      lt-ltb (r - suc i) (at t.size i) (omega arith))
      (λ e. (sound_descendants t s i r (omega arith) h).1 (l, omega (arith, ltb-true (r - suc i) (at t.size i) e)))

  -- no other row is
  pub ancestor_not : (i : ℕ) → r ≤ i → ancestor t.level i r ≡ false
  ancestor_not i l =
      same_test _ false
      (λ e. absurd (omega (arith, ((ancestor_under t.level t.count (sound_steps t s) i r h).0 e).after)))
      (λ e. absurd (false≢true e))

  -- an ancestor's descendants are those of r, r and perhaps more
  pub ancestor_larger : (i : ℕ) → i < t.count → ancestor t.level i r ≡ true → at t.size r + 1 ≤ at t.size i
  ancestor_larger i l e =
      let (a, b) = (sound_descendants t s i r l h).0 e in
      omega (arith, nested (sound_shape t s) i r l a b)

  -- so the ancestors are the rows whose size reaches r
  ancestors_reach : Reaches (λ i. ancestor t.level i r) r (sizes (nodes_of t))
  ancestors_reach i l = ancestor_size i l ∙ ap (ltb (r - suc i)) (sym (nodes_at t s i (omega arith)))

-- there are as many sizes as rows in use
length_column : (t : Table) → length (sizes (nodes_of t)) ≡ t.count
length_column t = length_sizes (nodes_of t) ∙ length_rows (node_at t) t.count

-- a piece's first row is at level 0
rooted : (f : ℕ → Node) (n : ℕ) → (f zero).level ≡ 0 → Rooted (rows f n)
unfolding rows
rooted f zero e = tt
rooted f (suc n) e = e

-- ── the size columns ──
module _ (t : Table) (s : Sound t) (k : ℕ) (h : row_in t k < t.count) where
  -- after an insertion
  pub size_inserted : (p : Table) → Sound p
      → take (t.count + p.count) (inserted t (row_in t k) p).size ≡ sizes (nodes_of (inserted t (row_in t k) p))
  unfolding inserted
  size_inserted p v =
      let r : ℕ = row_in t k in
      let n : ℕ = t.count in
      let c : ℕ = p.count in
      let g : ℕ = gap_of t r in
      let (d, row) = row_found t k h in
      let ss : List ℕ = sizes (nodes_of t) in
      let f : ℕ → Bool = λ i. eqb i r || ancestor t.level i r in
      let reaches : Reaches f r ss =
      λ i l. ap (λ (b : Bool). b || ancestor t.level i r) (ne_eqb i r (λ q. omega arith))
      ∙ ancestors_reach t s r h i l in
      let later : (i : ℕ) → suc r ≤ i → f i ≡ false =
      λ i l. ap₂ (λ (a b : Bool). a || b) (ne_eqb i r (λ q. omega arith)) (ancestor_not t s r h i (omega arith)) in
      let z : List ℕ = changed f (λ s. s + c) t.size in
      let zl : n ≤ length z = rw length_changed s.in_use.in_size in
      let tz : take n z ≡ changed f (λ s. s + c) ss =
      changed_take f _ n t.size ∙ ap (changed f (λ s. s + c)) (size_of_nodes t s) in
      let ge : g ≡ r + suc (length d) = let q = gap_row t s k row h in omega arith in
      let lp : length (nodes_of p) ≡ c = length_rows (node_at p) c in
      let is : opened g n c p.size z ≡ sizes (nodes_of (inserted t r p)) ++ drop (n + c) z =
      opened_is g n c p.size z (gap_fits t s r h) zl
      ∙ ap (λ (b : List ℕ). b ++ drop (n + c) z)
      (ap₂ (λ (u w : List ℕ). take g u ++ (w ++ drop g u)) tz (size_of_nodes p v)
      ∙ ap₂ (λ (m b : ℕ).
      take m (changed f (λ s. s + b) ss) ++ (sizes (nodes_of p) ++ drop m (changed f (λ s. s + b) ss))) ge (sym lp)
      ∙ changed_opened f r (length d) (length (nodes_of p)) (sizes (nodes_of p)) ss (rw length_column h)
      (sym (row_size k row)) reaches (either_left _ (eq-eqb r r refl)) later
      ∙ sym (sizes_ins k (nodes_of p) (rooted (node_at p) c ((v.rows 0 v.in_use.some).levels.root refl)) row _ refl)
      ∙ ap sizes (sym (nodes_inserted t s k h p v.in_use))) in
      ap (take (n + c)) is ∙ take_at _ (drop (n + c) z) (n + c) (length_sizes _ ∙ length_rows _ (n + c))

  -- after a deletion
  pub size_deleted : take (deleted t (row_in t k)).count (deleted t (row_in t k)).size
      ≡ sizes (nodes_of (deleted t (row_in t k)))
  unfolding deleted gap_of
  size_deleted =
      let r : ℕ = row_in t k in
      let n : ℕ = t.count in
      let by : ℕ = at t.size r + 1 in
      let (d, row) = row_found t k h in
      let ss : List ℕ = sizes (nodes_of t) in
      let f : ℕ → Bool = λ i. ancestor t.level i r in
      let z : List ℕ = changed f (λ s. s - by) t.size in
      let zl : n ≤ length z = rw length_changed s.in_use.in_size in
      let tz : take n z ≡ changed f (λ s. s - by) ss =
      changed_take f _ n t.size ∙ ap (changed f (λ s. s - by)) (size_of_nodes t s) in
      let be : by ≡ suc (length d) = let q : r + by ≡ suc (r + length d) = gap_row t s k row h in omega arith in
      let is : closed r n by z ≡ sizes (nodes_of (deleted t r)) ++ (replicate by 0 ++ drop n z) =
      closed_is r n by z (gap_fits t s r h) zl
      ∙ ap (λ (b : List ℕ). b ++ (replicate by 0 ++ drop n z))
      (ap (λ (u : List ℕ). take r u ++ drop (r + by) u) tz
      ∙ changed_closed f r by ss (omega (arith, length_column t)) (ancestors_reach t s r h) (ancestor_not t s r h)
      ∙ ap₂ (λ (b m : ℕ). resized r b 0 ss ++ drop m ss) be (let q : r + by ≡ suc r + length d = omega arith in q)
      ∙ sym (sizes_del k row)
      ∙ ap sizes (sym (nodes_deleted t s k h))) in
      ap (take (n - by)) is ∙ take_at _ (replicate by 0 ++ drop n z) (n - by) (length_sizes _ ∙ length_rows _ (n - by))
