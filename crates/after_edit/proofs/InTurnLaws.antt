-- Two edits of one table, in turn: the second is accepted after the first, `fits_after`, and both orders leave the same
-- nodes, `nodes_same`, so the same rows in use, `same_rows`. The conditions do not depend on the order: `flipped`.
-- Assumes nothing.
use mathlib.Core.Path.{◌≡◌, refl, sym, ap, subst, ◌∙◌}
use mathlib.Core.Bool.{false, true≢false}
use mathlib.Core.List.{List, map}
use Prim.Native.Nat.{ℕ, ◌+◌, ◌<◌, ◌≤◌}
use native.Mathlib.Omega.{arith}
use borrow.Author.Tests.{ne_eqb}
use lib.ListN.{length}
use Rattle.tree.specs.Table.{Table, at, shortest, SameRows}
use Rattle.tree.specs.Sound.{row_of}
use Rattle.tree.specs.Rules.{Sound}
use Rattle.tree.specs.EditRules.{OtherRoot, InsertFits, RenameFits}
use Rattle.tree.specs.Tree.{ancestor}
use Rattle.tree.proofs.SoundLaws.{find_at, sound_steps, sound_descendants}
use Rattle.tree.proofs.TreeLaws.{ancestor_under}
use Rattle.tree.proofs.AxisLaws.{false_of}
use Rattle.tree.proofs.AcceptLaws.{neither_of, insert_passes, delete_passes, rename_passes}
use Rattle.tree.proofs.Nodes.{Node, node_at, nodes_of, sizes, edited, brought, Row, Unlike, Absent, Apart}
use Rattle.tree.proofs.NodeLaws.{length_rows, all_rows, rows_all}
use Rattle.tree.proofs.NodeSizes.{nodes_at, size_of_nodes}
use Rattle.tree.proofs.NodeSound.{nodes_sound}
use Rattle.tree.proofs.SizeLaws.{row_size}
use Rattle.tree.proofs.Commute.{row_apart, absent_under, commute}
use Rattle.tree.proofs.GoodEditLaws.{apart_edited}
use Rattle.tree.proofs.EditLaws.{row_in, row_key, row_found, key_column, level_column, kind_column, name_column}
use Rattle.tree.proofs.EditSound.{insert_apart}
use Rattle.after_edit.specs.Act.{Act, insertion, deletion, renaming, key_of, row_named, brings}
use Rattle.after_edit.specs.Act.{new_keys, table_after}
use Rattle.after_edit.specs.Independent.{Independent, DeletesRoot}
use Rattle.after_edit.specs.Survives.{goes}
use Rattle.after_edit.proofs.ActLaws.{own, Fits, edit_of, accepted_fits, after_sound}
use Rattle.after_edit.proofs.ActLaws.{after_nodes, after_count, after_shortest}
use Rattle.after_edit.proofs.FoundAgain.{after_row}
use Rattle.tree.specs.Refusal.{passed}

-- ── keys ──
-- where a list has none of the keys that an edit brings, it is apart from them
keys_brought : (a : Act) (b : List Node) → ((i : ℕ) → i < brings a → Absent (at (new_keys a) i) b)
    → Apart (brought (edit_of a)) b
unfolding brought
keys_brought (insertion k p) b h = all_rows (λ x. Absent x.key b) (node_at p) p.count h
keys_brought (deletion k) b h = tt
keys_brought (renaming k m) b h = tt

-- a key unlike each of them is not brought
pub key_not_brought : (a : Act) (x : ℕ) → ((i : ℕ) → i < brings a → at (new_keys a) i ≡ x → ⊥)
    → Absent x (brought (edit_of a))
unfolding brought
key_not_brought (insertion k p) x h = all_rows (Unlike x) (node_at p) p.count h
key_not_brought (deletion k) x h = tt
key_not_brought (renaming k m) x h = tt

-- no key is in both pieces
pieces_apart : (a b : Act) (t : Table) → Independent a b t → Apart (brought (edit_of b)) (brought (edit_of a))
pieces_apart a b t i =
    keys_brought b (brought (edit_of a))
    (λ j l. key_not_brought a (at (new_keys b) j) (λ n m. i.keys_differ n j m l))

-- the keys that an accepted edit brings are new
keys_new : (a : Act) (t : Table) → Fits a t → Apart (brought (edit_of a)) (nodes_of t)
unfolding brought
keys_new (insertion k p) t f =
    insert_apart t (row_named (insertion k p) t) p ((insert_passes t (row_named (insertion k p) t) p).0 f.passes)
keys_new (deletion k) t f = tt
keys_new (renaming k m) t f = tt

-- ── one edit after the other ──
-- b's row is not among those that a deletes
row_stays : (a b : Act) (t : Table) → Independent a b t → goes a t (row_named b t) ≡ false
row_stays (insertion k p) b t i = refl
row_stays (deletion k) b t i = neither_of (ne_eqb _ _ (λ e. i.rows_differ (sym e))) i.a_not_above
row_stays (renaming k m) b t i = refl

-- another root than the one that b deletes stays where a is done first
root_stays : (a b : Act) (t : Table) → Independent a b t → Sound (table_after a t)
    → row_named b (table_after a t) < (table_after a t).count → DeletesRoot b t
    → OtherRoot (table_after a t).level (table_after a t).count (row_named b (table_after a t))
root_stays a (insertion k p) t i s l z = absurd z
root_stays a (renaming k m) t i s l z = absurd z
root_stays a (deletion k) t i s l z =
    let f : Fits a t = accepted_fits a t i.accepted_a in
    let g : Fits (deletion k) t = accepted_fits (deletion k) t i.accepted_b in
    let o = ((delete_passes t (row_named (deletion k) t)).0 g.passes).remains z in
    let u : Table = table_after a t in
    let (w, r) = after_row a t f o.row o.inside (stays a i f o) in
    record {
      row = w;
      inside = r.in_use;
      top = r.level ∙ o.top;
      unlike = λ e.
          let x : at t.key o.row ≡ k = sym r.key ∙ ap (at u.key) e ∙ row_key u k l in
          o.unlike (sym (find_at t g.sound o.row o.inside) ∙ ap (row_of t.key t.count) x);
    }
  where
    stays : (a : Act) → Independent a (deletion k) t → Fits a t
        → (o : OtherRoot t.level t.count (row_named (deletion k) t)) → goes a t o.row ≡ false
    stays (insertion j p) i f o = refl
    stays (renaming j m) i f o = refl
    stays (deletion j) i f o =
        neither_of (ne_eqb _ _ (λ e. i.one_root (ap (at t.level) (sym e) ∙ o.top) z))
        (false_of _ (λ e.
        let d = (ancestor_under t.level t.count (sound_steps t f.sound) (row_named (deletion j) t) o.row
        o.inside).0 e in
        let y = o.top in
        omega (arith, d.deeper o.row d.after (omega arith))))

-- b's own check passes on a sound table u where its row has the same level and kind, another root is left, its keys are
-- new and there is room
own_again : (b : Act) (t u : Table) → Fits b t → Sound u → row_named b u < u.count
    → at u.level (row_named b u) ≡ at t.level (row_named b t)
    → at u.kind (row_named b u) ≡ at t.kind (row_named b t)
    → (DeletesRoot b t → OtherRoot u.level u.count (row_named b u))
    → Apart (brought (edit_of b)) (nodes_of u) → u.count + brings b ≤ 4096 → u.count + brings b ≤ shortest u
    → own b u ≡ passed
unfolding brought
own_again (insertion k p) t u f s l v c o n limit room =
    let r : ℕ = row_named (insertion k p) t in
    let q : ℕ = row_named (insertion k p) u in
    let h : InsertFits t r p = (insert_passes t r p).0 f.passes in
    (insert_passes u q p).1 (record {
      piece = h.piece;
      root = h.root;
      one = h.one;
      parent = omega (arith, h.parent);
      low = λ i m. omega (arith, h.low i m);
      fresh = λ i m j o. rows_all (Unlike (at p.key i)) (node_at u) u.count j o
          (rows_all (λ x. Absent x.key (nodes_of u)) (node_at p) p.count i m n);
      few = limit;
      room = room;
    })
own_again (deletion k) t u f s l v c o n limit room =
    (delete_passes u (row_named (deletion k) u)).1 (record { remains = λ e. o (sym v ∙ e) })
own_again (renaming k m) t u f s l v c o n limit room =
    let r : ℕ = row_named (renaming k m) t in
    (rename_passes u (row_named (renaming k m) u) m).1
    (subst (λ (x : ℕ). RenameFits x m) (sym c) ((rename_passes t r m).0 f.passes))

-- no refusal applies to b after a
pub fits_after : (a b : Act) (t : Table) → Independent a b t → Fits b (table_after a t)
fits_after a b t i =
    let f : Fits a t = accepted_fits a t i.accepted_a in
    let g : Fits b t = accepted_fits b t i.accepted_b in
    let u : Table = table_after a t in
    let s : Sound u = after_sound a t f in
    let (w, r) = after_row a t f (row_named b t) g.found (row_stays a b t i) in
    let e : row_named b u ≡ w =
    ap (row_of u.key u.count) (sym (r.key ∙ row_key t (key_of b) g.found)) ∙ find_at u s w r.in_use in
    let l : row_named b (table_after a t) < (table_after a t).count = omega (arith, r.in_use) in
    record {
      sound = s;
      found = l;
      passes = own_again b t u g s l (ap (at u.level) e ∙ r.level) (ap (at u.kind) e ∙ r.kind)
          (root_stays a b t i s l)
          (subst (Apart (brought (edit_of b))) (sym (after_nodes a t f))
          (apart_edited (edit_of a) (key_of a) (brought (edit_of b)) (nodes_of t) (keys_new b t g)
          (pieces_apart a b t i)))
          (omega (arith, after_count a t, i.in_limit))
          (omega (arith, after_count a t, after_shortest a t f, i.in_columns));
    }

-- ── the two orders ──
-- a key k whose row has no ancestor at the row of j is not among that row's descendants d
not_under : (t : Table) → Sound t → (j k : ℕ) {d c : List Node} {x y : Node} → row_in t j < t.count
    → row_in t k < t.count → Row j (nodes_of t) (row_in t j) x d → Row k (nodes_of t) (row_in t k) y c → (k ≡ j → ⊥)
    → ancestor t.level (row_in t j) (row_in t k) ≡ false → Absent k d
not_under t s j k lj lk f g n h =
    absent_under j k (nodes_sound t s).keys n f g
    (λ p q. let e : row_in t k ≤ row_in t j + at t.size (row_in t j) =
    omega (arith, row_size j f, nodes_at t s (row_in t j) lj) in
    true≢false (sym ((sound_descendants t s (row_in t j) (row_in t k) lj lk).1 (p, e)) ∙ h))

-- both orders leave the same nodes
pub nodes_same : (a b : Act) (t : Table) → Independent a b t → Fits b (table_after a t) → Fits a (table_after b t)
    → nodes_of (table_after b (table_after a t)) ≡ nodes_of (table_after a (table_after b t))
nodes_same a b t i x y =
    let f : Fits a t = accepted_fits a t i.accepted_a in
    let g : Fits b t = accepted_fits b t i.accepted_b in
    let k : ℕ = key_of a in
    let j : ℕ = key_of b in
    let n : key_of a ≡ key_of b → ⊥ = λ e. i.rows_differ (ap (row_in t) e) in
    let (d, p) = row_found t k f.found in
    let (c, q) = row_found t j g.found in
    after_nodes b (table_after a t) x
    ∙ ap (edited (edit_of b) j) (after_nodes a t f)
    ∙ commute (edit_of a) (edit_of b) k j p q n
    (not_under t f.sound j k g.found f.found q p n i.b_not_above)
    (not_under t f.sound k j f.found g.found p q (λ e. n (sym e)) i.a_not_above)
    (row_apart k (brought (edit_of b)) p (keys_new b t g)) (row_apart j (brought (edit_of a)) q (keys_new a t f))
    ∙ ap (edited (edit_of a) k) (sym (after_nodes b t g))
    ∙ sym (after_nodes a (table_after b t) y)

-- sound tables of the same nodes have the same rows in use
pub same_rows : (t u : Table) → Sound t → Sound u → nodes_of t ≡ nodes_of u → SameRows t u
same_rows t u s v e = record {
  count = sym (length_rows (node_at t) t.count) ∙ ap length e ∙ length_rows (node_at u) u.count;
  key = sym (key_column t s.in_use) ∙ ap (map (λ (x : Node). x.key)) e ∙ key_column u v.in_use;
  size = size_of_nodes t s ∙ ap sizes e ∙ sym (size_of_nodes u v);
  level = sym (level_column t s.in_use) ∙ ap (map (λ (x : Node). x.level)) e ∙ level_column u v.in_use;
  kind = sym (kind_column t s.in_use) ∙ ap (map (λ (x : Node). x.kind)) e ∙ kind_column u v.in_use;
  name = sym (name_column t s.in_use) ∙ ap (map (λ (x : Node). x.name)) e ∙ name_column u v.in_use;
}

-- ── the conditions ──
-- they do not depend on the order
pub flipped : (a b : Act) (t : Table) → Independent a b t → Independent b a t
flipped a b t i = record {
  accepted_a = i.accepted_b;
  accepted_b = i.accepted_a;
  rows_differ = λ e. i.rows_differ (sym e);
  a_not_above = i.b_not_above;
  b_not_above = i.a_not_above;
  one_root = λ x y. i.one_root y x;
  keys_differ = λ n j l m e. i.keys_differ j n m l (sym e);
  in_limit = omega (arith, i.in_limit);
  in_columns = omega (arith, i.in_columns);
}
