-- The edited table, row by row, is the edit of its nodes by key: `nodes_inserted`, `nodes_deleted`, `nodes_renamed`.
-- So what is proved of lists of nodes (Commute.antt) holds of 01's columns. Before them: the row found for a key,
-- `row_key`, `row_found`; where its descendants end, `gap_fits`, `gap_row`; a column read off the nodes, `key_column`,
-- `level_column`, `kind_column`, `name_column`. Assumes nothing.
use mathlib.Core.Path.{◌≡◌, refl, sym, ap, ap₂, ◌∙◌}
use mathlib.Core.List.{List, [], ◌∷◌, ◌++◌, map, append_assoc, map-append}
use Prim.Native.Nat.{ℕ, zero, suc, ◌+◌, ◌-◌, ◌<◌, ◌≤◌}
use native.Mathlib.Nat.{le_of_suc-le-suc, not-suc-le-zero}
use native.Mathlib.Decide.{ℕ_discrete}
use native.Mathlib.Omega.{arith}
use borrow.Author.Tests.{eqb-true, eqb-false}
use lib.Dec.{eqb}
use lib.ListN.{length, get_or, take, drop, set, replicate, length-append, length-drop, length-map, length-set}
use lib.Seq.{length-take-le, get_or-set_same, get_or-set_other, ext_get_or}
use Rattle.tree.specs.Table.{Table, at}
use Rattle.tree.specs.Sound.{row_of}
use Rattle.tree.specs.Edit.{opened, closed, gap_of, inserted, deleted, renamed}
use Rattle.tree.specs.Rules.{InUse, Sound}
use Rattle.tree.proofs.SearchLaws.{least_below, least_passes}
use Rattle.tree.proofs.TreeLaws.{size_fits}
use Rattle.tree.proofs.ColumnLaws.{opened_is, closed_is}
use Rattle.tree.proofs.Nodes.{Node, rows, node_at, nodes_of, run, rest, lift, named, ins, del, ren, sub}
use Rattle.tree.proofs.Nodes.{edited, Row, here, there}
use Rattle.tree.proofs.NodeLaws.{edited_here, edited_there, run_rest, take_run, drop_run, length_rows, rows_at}
use Rattle.tree.proofs.NodeSizes.{nodes_at}
use Rattle.tree.proofs.SizeLaws.{row_size}

-- the row of a key
abbrev pub row_in : Table → ℕ → ℕ
row_in t k = row_of t.key t.count k

-- ── the row that is found for a key ──
-- the first of n values that has the key
row_rows : (k : ℕ) (f : ℕ → Node) (n r : ℕ) → r < n → (f r).key ≡ k → ((j : ℕ) → j < r → (f j).key ≡ k → ⊥)
    → (d : List Node) × Row k (rows f n) r (f r) d
unfolding rows
row_rows k f zero r l e h = absurd (not-suc-le-zero l)
row_rows k f (suc n) zero l e h = (run (f zero).level (rows (λ i. f (suc i)) n), here e)
row_rows k f (suc n) (suc r) l e h =
    let s = row_rows k (λ i. f (suc i)) n r (le_of_suc-le-suc l) e (λ j m. h (suc j) (omega arith)) in
    (s.0, there (h zero (omega arith)) s.1)

-- the row that is found has it
pub row_key : (t : Table) (k : ℕ) → row_in t k < t.count → at t.key (row_in t k) ≡ k
unfolding row_of
row_key t k l = eqb-true _ _ (least_passes (λ j. eqb (at t.key j) k) t.count l)

-- and is its row in the list
pub row_found : (t : Table) (k : ℕ) → row_in t k < t.count
    → (d : List Node) × Row k (nodes_of t) (row_in t k) (node_at t (row_in t k)) d
unfolding row_of
row_found t k l =
    row_rows k (node_at t) t.count _ l (row_key t k l)
    (λ j m. eqb-false _ _ (least_below (λ j. eqb (at t.key j) k) t.count j m))

-- a row of a sound table, with its descendants, ends in the table
pub gap_fits : (t : Table) → Sound t → (r : ℕ) → r < t.count → gap_of t r ≤ t.count
unfolding gap_of
gap_fits t s r l = omega (arith, (s.rows r l).sizes, size_fits t.level t.count r s.in_use.in_level l)

-- and the row after them is the one after them in the list
pub gap_row : (t : Table) → Sound t → (k : ℕ) {r : ℕ} {x : Node} {d : List Node} → Row k (nodes_of t) r x d
    → r < t.count → gap_of t r ≡ suc (r + length d)
unfolding gap_of
gap_row t s k {r} f l = omega (arith, row_size k f, nodes_at t s r l)

-- ── the edited list by row numbers: g is the row after row r and its descendants ──
-- an insertion
edited_ins : (p : List Node) (k : ℕ) {ns d : List Node} {r : ℕ} {x : Node} → Row k ns r x d → (g : ℕ)
    → g ≡ suc (r + length d) → edited (ins p) k ns ≡ take g ns ++ (map (lift (x.level + 1)) p ++ drop g ns)
unfolding sub
edited_ins p k (here {x = x} {xs = xs} h) g q =
    let w : suc (length (run x.level xs)) ≡ g = omega arith in
    let lp : List Node = map (lift (x.level + 1)) p in
    edited_here (ins p) k x xs h
    ∙ ap (λ (z : List Node). x ∷ z) (append_assoc (run x.level xs) lp (rest x.level xs))
    ∙ ap₂ (λ (u v : List Node). x ∷ (u ++ (lp ++ v))) (sym (take_run x.level xs)) (sym (drop_run x.level xs))
    ∙ ap (λ (n : ℕ). take n (x ∷ xs) ++ (lp ++ drop n (x ∷ xs))) w
edited_ins p k (there {x = x} {y = y} {ys = ys} {d = d} {r = r} h f) g q =
    let w : suc (suc (r + length d)) ≡ g = omega arith in
    edited_there (ins p) k y ys h ∙ ap (λ (z : List Node). y ∷ z) (edited_ins p k f (suc (r + length d)) refl)
    ∙ ap (λ (n : ℕ). take n (y ∷ ys) ++ (map (lift (x.level + 1)) p ++ drop n (y ∷ ys))) w

-- a deletion
edited_del : (k : ℕ) {ns d : List Node} {r : ℕ} {x : Node} → Row k ns r x d → (g : ℕ) → g ≡ suc (r + length d)
    → edited del k ns ≡ take r ns ++ drop g ns
unfolding sub
edited_del k (here {x = x} {xs = xs} h) g q =
    let w : suc (length (run x.level xs)) ≡ g = omega arith in
    edited_here del k x xs h ∙ sym (drop_run x.level xs) ∙ ap (λ (n : ℕ). drop n (x ∷ xs)) w
edited_del k (there {y = y} {ys = ys} {d = d} {r = r} h f) g q =
    let w : suc (suc (r + length d)) ≡ g = omega arith in
    edited_there del k y ys h ∙ ap (λ (z : List Node). y ∷ z) (edited_del k f (suc (r + length d)) refl)
    ∙ ap (λ (n : ℕ). y ∷ (take r ys ++ drop n (y ∷ ys))) w

-- a renaming
edited_ren : (m k : ℕ) {ns d : List Node} {r : ℕ} {x : Node} → Row k ns r x d
    → edited (ren m) k ns ≡ set ns r (named m x)
unfolding sub
edited_ren m k (here {x = x} {xs = xs} h) =
    edited_here (ren m) k x xs h ∙ ap (λ (z : List Node). named m x ∷ z) (run_rest x.level xs)
edited_ren m k (there {y = y} {ys = ys} h f) =
    edited_there (ren m) k y ys h ∙ ap (λ (z : List Node). y ∷ z) (edited_ren m k f)

-- ── columns of nodes ──
-- four columns read as nodes
abbrev cols : List ℕ → List ℕ → List ℕ → List ℕ → ℕ → List Node
cols k l c m n = rows (λ i. record { key = at k i; level = at l i; kind = at c i; name = at m i }) n

-- columns that begin with those of ns have the nodes ns
cols_of : (ns : List Node) (a b c d : List ℕ)
    → cols (map (λ x. x.key) ns ++ a) (map (λ x. x.level) ns ++ b) (map (λ x. x.kind) ns ++ c)
    (map (λ x. x.name) ns ++ d) (length ns) ≡ ns
unfolding rows
cols_of [] a b c d = refl
cols_of (x ∷ ns) a b c d = ap (λ (z : List Node). x ∷ z) (cols_of ns a b c d)

-- and so has a table of these columns
nodes_are : (t : Table) (ns : List Node) (a b c d : List ℕ) → t.count ≡ length ns → t.key ≡ map (λ x. x.key) ns ++ a
    → t.level ≡ map (λ x. x.level) ns ++ b → t.kind ≡ map (λ x. x.kind) ns ++ c
    → t.name ≡ map (λ x. x.name) ns ++ d → nodes_of t ≡ ns
nodes_are t ns a b c d n p q u v =
    ap₂ (λ (y z : List ℕ). cols y z t.kind t.name t.count) p q
    ∙ ap₂ (λ (y z : List ℕ). cols (map (λ x. x.key) ns ++ a) (map (λ x. x.level) ns ++ b) y z t.count) u v
    ∙ ap (cols (map (λ x. x.key) ns ++ a) (map (λ x. x.level) ns ++ b) (map (λ x. x.kind) ns ++ c)
    (map (λ x. x.name) ns ++ d)) n
    ∙ cols_of ns a b c d

-- a column's rows in use, read off the nodes
column : (g : Node → ℕ) (f : ℕ → Node) (xs : List ℕ) (n : ℕ) → n ≤ length xs → ((i : ℕ) → g (f i) ≡ at xs i)
    → map g (rows f n) ≡ take n xs
unfolding rows
column g f xs zero l h = refl
column g f [] (suc n) l h = absurd (not-suc-le-zero l)
column g f (x ∷ xs) (suc n) l h =
    ap₂ (λ (u : ℕ) (z : List ℕ). u ∷ z) (h zero) (column g (λ i. f (suc i)) xs n (le_of_suc-le-suc l) (λ i. h (suc i)))

module _ (t : Table) (u : InUse t) where
  -- the keys
  pub key_column : map (λ x. x.key) (nodes_of t) ≡ take t.count t.key
  key_column = column _ (node_at t) t.key t.count u.in_key (λ i. refl)

  -- the levels
  pub level_column : map (λ x. x.level) (nodes_of t) ≡ take t.count t.level
  level_column = column _ (node_at t) t.level t.count u.in_level (λ i. refl)

  -- the kinds
  pub kind_column : map (λ x. x.kind) (nodes_of t) ≡ take t.count t.kind
  kind_column = column _ (node_at t) t.kind t.count u.in_kind (λ i. refl)

  -- the names
  pub name_column : map (λ x. x.name) (nodes_of t) ≡ take t.count t.name
  name_column = column _ (node_at t) t.name t.count u.in_name (λ i. refl)

-- ── edited columns of nodes ──
-- a part from the front
pub map_take : {A B : Type 0} (g : A → B) (n : ℕ) (xs : List A) → map g (take n xs) ≡ take n (map g xs)
map_take g zero xs = refl
map_take g (suc n) [] = refl
map_take g (suc n) (x ∷ xs) = ap (λ z. g x ∷ z) (map_take g n xs)

-- what is left
map_drop : {A B : Type 0} (g : A → B) (n : ℕ) (xs : List A) → map g (drop n xs) ≡ drop n (map g xs)
map_drop g zero xs = refl
map_drop g (suc n) [] = refl
map_drop g (suc n) (x ∷ xs) = map_drop g n xs

-- a column of the nodes with others between
opened_nodes : (f : Node → ℕ) (g n c : ℕ) (ns ps : List Node) (xs ys : List ℕ) → g ≤ n → n ≤ length xs
    → map f ns ≡ take n xs → map f ps ≡ take c ys
    → opened g n c ys xs ≡ map f (take g ns ++ (ps ++ drop g ns)) ++ drop (n + c) xs
opened_nodes f g n c ns ps xs ys h l a b =
    opened_is g n c ys xs h l ∙ ap (λ (z : List ℕ). z ++ drop (n + c) xs)
    (ap₂ (λ (u w : List ℕ). take g u ++ (w ++ drop g u)) (sym a) (sym b)
    ∙ sym (map-append f (take g ns) (ps ++ drop g ns)
    ∙ ap₂ (λ (u v : List ℕ). u ++ v) (map_take f g ns)
    (map-append f ps (drop g ns) ∙ ap (λ (z : List ℕ). map f ps ++ z) (map_drop f g ns))))

-- a column of the nodes without some
closed_nodes : (f : Node → ℕ) (r n by : ℕ) (ns : List Node) (xs : List ℕ) → r + by ≤ n → n ≤ length xs
    → map f ns ≡ take n xs → closed r n by xs ≡ map f (take r ns ++ drop (r + by) ns) ++ (replicate by 0 ++ drop n xs)
closed_nodes f r n by ns xs h l a =
    closed_is r n by xs h l ∙ ap (λ (z : List ℕ). z ++ (replicate by 0 ++ drop n xs))
    (ap (λ (u : List ℕ). take r u ++ drop (r + by) u) (sym a)
    ∙ sym (map-append f (take r ns) (drop (r + by) ns)
    ∙ ap₂ (λ (u v : List ℕ). u ++ v) (map_take f r ns) (map_drop f (r + by) ns)))

-- a piece's column under a row: all but the levels stay
lift_same : (f : Node → ℕ) (l : ℕ) (ps : List Node) → ((x : Node) → f (lift l x) ≡ f x)
    → map f (map (lift l) ps) ≡ map f ps
lift_same f l [] h = refl
lift_same f l (x ∷ ps) h = ap₂ (λ (u : ℕ) (z : List ℕ). u ∷ z) (h x) (lift_same f l ps h)

-- which rise
lift_level : (l : ℕ) (ps : List Node)
    → map (λ x. x.level) (map (lift l) ps) ≡ map (λ v. v + l) (map (λ x. x.level) ps)
unfolding lift
lift_level l [] = refl
lift_level l (x ∷ ps) = ap (λ (z : List ℕ). (x.level + l) ∷ z) (lift_level l ps)

-- ── the three edits ──
module _ (t : Table) (s : Sound t) (k : ℕ) (h : row_in t k < t.count) where
  -- an insertion, by row on the columns, is the insertion by key on the nodes
  pub nodes_inserted : (p : Table) → InUse p
      → nodes_of (inserted t (row_in t k) p) ≡ edited (ins (nodes_of p)) k (nodes_of t)
  unfolding inserted lift
  nodes_inserted p v =
      let r : ℕ = row_in t k in
      let n : ℕ = t.count in
      let c : ℕ = p.count in
      let g : ℕ = gap_of t r in
      let gn : gap_of t (row_in t k) ≤ t.count = gap_fits t s r h in
      let l : ℕ = at t.level r + 1 in
      let lp : List Node = map (lift l) (nodes_of p) in
      let es : List Node = take g (nodes_of t) ++ (lp ++ drop g (nodes_of t)) in
      let len : n + c ≡ length es =
      let a : length (take g (nodes_of t)) ≡ g = length-take-le g (nodes_of t) (rw length_rows gn) in
      let b : length (nodes_of t) ≡ n = length_rows (node_at t) n in
      let d : length lp ≡ c = length-map (nodes_of p) (lift l) ∙ length_rows (node_at p) c in
      rw (length-append, length-append, length-drop) (omega arith) in
      let u : InUse t = s.in_use in
      let (d, f) = row_found t k h in
      nodes_are (inserted t r p) es (drop (n + c) t.key) (drop (n + c) t.level) (drop (n + c) t.kind)
      (drop (n + c) t.name) len
      (opened_nodes _ g n c (nodes_of t) lp t.key p.key gn u.in_key (key_column t u)
      (lift_same (λ x. x.key) l (nodes_of p) (λ x. refl) ∙ key_column p v))
      (opened_nodes _ g n c (nodes_of t) lp t.level (map (λ v. v + l) p.level) gn u.in_level (level_column t u)
      (lift_level l (nodes_of p) ∙ ap (map (λ v. v + l)) (level_column p v) ∙ map_take (λ v. v + l) c p.level))
      (opened_nodes _ g n c (nodes_of t) lp t.kind p.kind gn u.in_kind (kind_column t u)
      (lift_same (λ x. x.kind) l (nodes_of p) (λ x. refl) ∙ kind_column p v))
      (opened_nodes _ g n c (nodes_of t) lp t.name p.name gn u.in_name (name_column t u)
      (lift_same (λ x. x.name) l (nodes_of p) (λ x. refl) ∙ name_column p v))
      ∙ sym (edited_ins (nodes_of p) k f g (gap_row t s k f h))

  -- a deletion
  pub nodes_deleted : nodes_of (deleted t (row_in t k)) ≡ edited del k (nodes_of t)
  unfolding deleted gap_of
  nodes_deleted =
      let r : ℕ = row_in t k in
      let n : ℕ = t.count in
      let by : ℕ = at t.size r + 1 in
      let gn : r + by ≤ t.count = gap_fits t s r h in
      let es : List Node = take r (nodes_of t) ++ drop (r + by) (nodes_of t) in
      let tail : List ℕ → List ℕ = λ xs. replicate by 0 ++ drop n xs in
      let len : n - by ≡ length es =
      let b : length (nodes_of t) ≡ n = length_rows (node_at t) n in
      let a : length (take r (nodes_of t)) ≡ r = length-take-le r (nodes_of t) (omega arith) in
      rw (length-append, length-drop) (omega arith) in
      let u : InUse t = s.in_use in
      let (d, f) = row_found t k h in
      nodes_are (deleted t r) es (tail t.key) (tail t.level) (tail t.kind) (tail t.name) len
      (closed_nodes _ r n by (nodes_of t) t.key gn u.in_key (key_column t u))
      (closed_nodes _ r n by (nodes_of t) t.level gn u.in_level (level_column t u))
      (closed_nodes _ r n by (nodes_of t) t.kind gn u.in_kind (kind_column t u))
      (closed_nodes _ r n by (nodes_of t) t.name gn u.in_name (name_column t u))
      ∙ sym (edited_del k f (r + by) (gap_row t s k f h))

  -- a renaming
  pub nodes_renamed : (m : ℕ) → nodes_of (renamed t (row_in t k) m) ≡ edited (ren m) k (nodes_of t)
  unfolding renamed named
  nodes_renamed m =
      let r : ℕ = row_in t k in
      let n : ℕ = t.count in
      let y : Node = named m (node_at t r) in
      let withName : ℕ → ℕ → Node =
      λ i v. record { key = at t.key i; level = at t.level i; kind = at t.kind i; name = v } in
      let in_name : row_in t k < length t.name = omega (arith, s.in_use.in_name) in
      let in-nodes : row_in t k < length (nodes_of t) = rw length_rows h in
      let is : (i : ℕ) → i < n → node_at (renamed t r m) i ≡ get_or (set (nodes_of t) r y) i y =
      λ i q. elim (ℕ_discrete i r) [
        | yes e ↦ rw e (ap (withName r) (get_or-set_same t.name r m 0 in_name)
            ∙ sym (get_or-set_same (nodes_of t) r y y in-nodes))
        | no e ↦ ap (withName i) (get_or-set_other t.name r i m 0 e)
            ∙ sym (get_or-set_other (nodes_of t) r i y y e ∙ rows_at (node_at t) n i y q)
      ] in
      ext_get_or y _ _ (length_rows _ n ∙ sym (length-set (nodes_of t) r y ∙ length_rows (node_at t) n))
      (λ i q. let l : i < n = rw length_rows at q in rows_at _ n i y l ∙ is i l)
      ∙ sym (edited_ren m k (row_found t k h).1)
