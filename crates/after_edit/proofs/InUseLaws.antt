-- Spare rows are never read by an edit: RULES 01, "The table". On two tables whose rows in use are the same, with the
-- same room, an edit gets the same answer and leaves the same rows in use: `in_use_edit`. Two pieces whose rows in use
-- are the same leave the same when they are inserted, spare rows too: `in_use_piece`. Assumes nothing.
use mathlib.Core.Path.{◌≡◌, refl, sym, ap, ap₂, ◌∙◌}
use mathlib.Core.Bool.{Bool, true, false, not, ◌&&◌}
use mathlib.Core.List.{List, ◌∷◌}
use Prim.Native.Nat.{ℕ, zero, suc, ◌+◌, ◌<◌, ◌≤◌}
use native.Mathlib.Omega.{arith}
use borrow.Author.Tests.{ltb-true}
use lib.Dec.{eqb, ltb}
use lib.ListN.{take}
use lib.Seq.{take-take, get_or-take}
use Rattle.tree.specs.Search.{some_below}
use Rattle.tree.specs.Table.{Table, at, count_ok, SameRows}
use Rattle.tree.specs.Sound.{row_of}
use Rattle.tree.specs.Tree.{other_root}
use Rattle.tree.specs.Edit.{opened, gap_of, inserted, insert_done, delete_done, rename_done}
use Rattle.tree.specs.Refusal.{given, given_at, next, table_check, key_check, bad_piece, insert_check, delete_check}
use Rattle.tree.specs.Refusal.{rename_check, Checked}
use Rattle.tree.specs.Outcome.{check_outcome, edit_if, edit_check, insert_outcome}
use Rattle.tree.proofs.SearchLaws.{least_ext}
use Rattle.tree.proofs.SoundLaws.{count_ok_lem}
use Rattle.tree.proofs.RowsInUse.{cut, cut_same, cut_find, cut_count, cut_bad, cut_other, in_use_check}
use Rattle.tree.proofs.AcceptLaws.{edit_passes}
use Rattle.tree.proofs.Nodes.{Node, rows, node_at, nodes_of, edited}
use Rattle.tree.proofs.EditLaws.{map_take}
use Rattle.after_edit.specs.Act.{Act, insertion, deletion, renaming, outcome, Accepted, key_of, row_named}
use Rattle.after_edit.specs.Act.{done_of}
use Rattle.after_edit.specs.Spare.{SameRoom}
use Rattle.after_edit.proofs.ActLaws.{own, Fits, edit_of, outcome_is, fits_accepted, accepted_answer}
use Rattle.after_edit.proofs.ActLaws.{accepted_table, after_sound, after_nodes}
use Rattle.after_edit.proofs.InTurnLaws.{same_rows}
use Rattle.std.specs.Prelude.{Ok, Err}
use Rattle.tree.specs.declared.Refusal.TheVariants.{DeletesRoot}

-- ── the piece ──
module _ (p : Table) where
  -- refusal 10
  cut_piece : bad_piece (cut p) ≡ bad_piece p
  unfolding bad_piece
  cut_piece = go (count_ok p) refl
    where
      go : (b : Bool) → count_ok p ≡ b → bad_piece (cut p) ≡ bad_piece p
      go true e =
          let l : 0 < p.count = omega (arith, ((count_ok_lem p).0 e).some) in
          simp (cut_count p, cut_bad p, get_or-take, cut_other)
      go false e = rw (cut_count p, e)

  -- refusals 10 to 14
  cut_insert : (t : Table) (r : ℕ) → insert_check t r (cut p) ≡ insert_check t r p
  unfolding insert_check given_at some_below
  cut_insert t r = rw (
    cut_piece,
    least_ext (λ i. ltb 63 (at (cut p).level i + (at t.level r + 1)))
        (λ i. ltb 63 (at p.level i + (at t.level r + 1))) p.count (λ i l. simp get_or-take),
    least_ext (λ i. ltb (row_of t.key t.count (at (cut p).key i)) t.count)
        (λ i. ltb (row_of t.key t.count (at p.key i)) t.count) p.count (λ i l. simp get_or-take),
  )

  -- the table afterwards
  cut_inserted : (t : Table) (r : ℕ) → inserted t r (cut p) ≡ inserted t r p
  unfolding inserted opened
  cut_inserted t r = let l : p.count ≤ p.count = omega arith in simp (map_take, take-take)

  -- the whole outcome
  cut_outcome : (t : Table) (k : ℕ) → insert_outcome t k (cut p) ≡ insert_outcome t k p
  unfolding insert_outcome insert_done
  cut_outcome t k = let r : ℕ = row_of t.key t.count k in rw (cut_insert t r, cut_inserted t r)

-- 01: a piece's spare rows are never read
pub in_use_piece : (t : Table) (k : ℕ) (p q : Table) → SameRows p q → insert_outcome t k p ≡ insert_outcome t k q
in_use_piece t k p q s = sym (cut_outcome p t k) ∙ ap (insert_outcome t k) (cut_same p q s) ∙ cut_outcome q t k

-- ── the table ──
-- two functions that agree below n give the same n nodes
nodes_ext : (f g : ℕ → Node) (n : ℕ) → ((i : ℕ) → i < n → f i ≡ g i) → rows f n ≡ rows g n
unfolding rows
nodes_ext f g zero h = refl
nodes_ext f g (suc n) h =
    ap₂ (λ (x : Node) (z : List Node). x ∷ z) (h zero (omega arith))
    (nodes_ext (λ i. f (suc i)) (λ i. g (suc i)) n (λ i l. h (suc i) (omega arith)))

-- the nodes of the rows in use
cut_nodes : (t : Table) → nodes_of (cut t) ≡ nodes_of t
cut_nodes t = nodes_ext (node_at (cut t)) (node_at t) t.count (λ i l. simp get_or-take)

module _ (t u : Table) (s : SameRows t u) where
  -- the same row of a key
  find_same : (k : ℕ) → row_of t.key t.count k ≡ row_of u.key u.count k
  find_same k =
      sym (cut_find t.count t.key t.count k (omega arith))
      ∙ ap (λ (x : Table). row_of x.key x.count k) (cut_same t u s)
      ∙ cut_find u.count u.key u.count k (omega arith)

  -- the same nodes
  nodes_in_use : nodes_of t ≡ nodes_of u
  nodes_in_use = sym (cut_nodes t) ∙ ap nodes_of (cut_same t u s) ∙ cut_nodes u

  -- a column is the same at a row in use
  at_same : (xs ys : List ℕ) → take t.count xs ≡ take u.count ys → (i j : ℕ) → i ≡ j → i < t.count
      → at xs i ≡ at ys j
  at_same xs ys e i j q l =
      let c : t.count ≡ u.count = s.count in
      sym (get_or-take t.count xs i 0 l) ∙ ap₂ at e q ∙ get_or-take u.count ys j 0 (omega arith)

  -- the edit's own check
  own_same : (a : Act) → SameRoom a t u → row_named a t < t.count → own a t ≡ own a u
  unfolding insert_check given_at some_below delete_check rename_check
  own_same (insertion k p) e l =
      let c : t.count ≡ u.count = s.count in
      let q : row_of t.key t.count k ≡ row_of u.key u.count k = find_same k in
      let d : at t.kind (row_of t.key t.count k) ≡ at u.kind (row_of u.key u.count k) =
      at_same _ _ s.kind _ _ q l in
      let g : at t.level (row_of t.key t.count k) ≡ at u.level (row_of u.key u.count k) =
      at_same _ _ s.level _ _ q l in
      cc (
        least_ext (λ i. ltb 63 (at p.level i + (at t.level (row_of t.key t.count k) + 1)))
            (λ i. ltb 63 (at p.level i + (at u.level (row_of u.key u.count k) + 1))) p.count
            (λ i m. cc),
        least_ext (λ i. ltb (row_of t.key t.count (at p.key i)) t.count)
            (λ i. ltb (row_of u.key u.count (at p.key i)) u.count) p.count
            (λ i m. ap₂ ltb (find_same (at p.key i)) c),
      )
  own_same (deletion k) e l =
      let q : row_of t.key t.count k ≡ row_of u.key u.count k = find_same k in
      let g : at t.level (row_of t.key t.count k) ≡ at u.level (row_of u.key u.count k) =
      at_same _ _ s.level _ _ q l in
      ap₂ (λ (x : ℕ) (b : Bool). given (eqb x 0 && not b) DeletesRoot) g
      (sym (cut_other t.count t.level (row_of t.key t.count k))
      ∙ ap₂ (λ (x : Table) (r : ℕ). other_root x.level x.count r) (cut_same t u s) q
      ∙ cut_other u.count u.level (row_of u.key u.count k))
  own_same (renaming k m) e l =
      let q : row_of t.key t.count k ≡ row_of u.key u.count k = find_same k in
      let d : at t.kind (row_of t.key t.count k) ≡ at u.kind (row_of u.key u.count k) =
      at_same _ _ s.kind _ _ q l in
      cc

  -- the answer where it is accepted
  done_same : (a : Act) → row_named a t < t.count → done_of a t ≡ done_of a u
  unfolding insert_done delete_done rename_done gap_of
  done_same a l = go a (at_same _ _ s.size _ _ (find_same (key_of a)) l) (find_same (key_of a)) s.count
    where
      go : (a : Act) → at t.size (row_named a t) ≡ at u.size (row_named a u) → row_named a t ≡ row_named a u
          → t.count ≡ u.count → done_of a t ≡ done_of a u
      go (insertion k p) d q c = cc
      go (deletion k) d q c = cc
      go (renaming k m) d q c = cc

  -- the whole check
  check_same : (a : Act) → SameRoom a t u → edit_check t (key_of a) (own a t) ≡ edit_check u (key_of a) (own a u)
  unfolding edit_check key_check check_outcome given next
  check_same a e = go (ltb (row_named a t) t.count) refl (in_use_check t u s)
      (ap₂ ltb (find_same (key_of a)) s.count)
    where
      go : (b : Bool) → ltb (row_named a t) t.count ≡ b → table_check t ≡ table_check u
          → ltb (row_named a t) t.count ≡ ltb (row_named a u) u.count
          → edit_check t (key_of a) (own a t) ≡ edit_check u (key_of a) (own a u)
      go true q x f = rw (x, f, own_same a e (ltb-true _ _ q))
      go false q x f = rw (x, q, sym f ∙ q)

  -- 01: spare rows are never read by an edit
  pub in_use_edit : (a : Act) → SameRoom a t u
      → ((outcome a t).answer ≡ (outcome a u).answer) × SameRows (outcome a t).table (outcome a u).table
  unfolding edit_if
  in_use_edit a e = go (edit_check t (key_of a) (own a t)) refl
    where
      go : (c : Checked) → edit_check t (key_of a) (own a t) ≡ c
          → ((outcome a t).answer ≡ (outcome a u).answer) × SameRows (outcome a t).table (outcome a u).table
      go (Ok v) q =
          let f : Fits a t = (edit_passes t (key_of a) (own a t)).0 q in
          let g : Fits a u = (edit_passes u (key_of a) (own a u)).0 (sym (check_same a e) ∙ q) in
          let x : Accepted (outcome a t) = fits_accepted a t f in
          let y : Accepted (outcome a u) = fits_accepted a u g in (
            accepted_answer a t x ∙ ap Ok (done_same a f.found) ∙ sym (accepted_answer a u y),
            rw (accepted_table a t x, accepted_table a u y)
                (same_rows _ _ (after_sound a t f) (after_sound a u g)
                (after_nodes a t f ∙ ap (edited (edit_of a) (key_of a)) nodes_in_use ∙ sym (after_nodes a u g))),
          )
      go (Err why) q = rw (outcome_is a t, outcome_is a u, q, sym (check_same a e) ∙ q) (refl, s)
