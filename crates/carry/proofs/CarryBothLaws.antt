-- Two edits in turn. Carrying a list over the one and then over the other is finding it again by its keys in the last
-- table, `carry_both`, where the second edit brings no key back that the first deleted, `not_brought`: that would be
-- another row, and the grant on the old one is gone (`farm_back`, FarmOrder.antt). So over two edits that may come in
-- either order (demand 3) a list is carried to the same list, `carry_either_order`. Assumes nothing.
use mathlib.Core.Path.{◌≡◌, refl, sym, ap, ap₂, ◌∙◌}
use mathlib.Core.Bool.{Bool, true, false, not, ◌||◌, true≢false}
use mathlib.Core.List.{List}
use Prim.Native.Nat.{ℕ, ◌<◌}
use native.Mathlib.Omega.{arith}
use borrow.Author.Tests.{ltb-true}
use lib.Dec.{ltb}
use Rattle.tree.specs.Table.{Table, at, SameRows}
use Rattle.tree.specs.Sound.{row_of}
use Rattle.tree.specs.Rules.{Sound}
use Rattle.tree.specs.EditRules.{NoKey}
use Rattle.tree.specs.Pairs.{Pair}
use Rattle.tree.specs.Carry.{carried}
use Rattle.tree.specs.declared.Done.{Done}
use Rattle.tree.proofs.AcceptLaws.{no_key, insert_passes}
use Rattle.tree.proofs.EditLaws.{row_key}
use Rattle.tree.proofs.RowsInUse.{cut_find}
use Rattle.tree.proofs.NodeLaws.{absent_edited, all_rows, rows_all}
use Rattle.tree.proofs.Nodes.{Unlike, Absent, node_at, nodes_of, brought}
use Rattle.tree.proofs.CarryLaws.{carried_same, carried_twice}
use Rattle.after_edit.specs.Act.{Act, insertion, deletion, renaming, outcome, table_after, row_named, brings}
use Rattle.after_edit.specs.Act.{new_keys}
use Rattle.after_edit.specs.Independent.{Independent, in_turn}
use Rattle.after_edit.proofs.ActLaws.{Fits, edit_of, accepted_fits, accepted_has, after_nodes}
use Rattle.after_edit.proofs.FoundAgain.{edited_sound}
use Rattle.after_edit.proofs.InTurnLaws.{key_not_brought, flipped}
use Rattle.after_edit.proofs.EitherOrder.{either_order}
use Rattle.carry.specs.Refound.{refound_at, refound, NotBack}
use Rattle.carry.proofs.GrantLaws.{Inside, carry_refinds, refound_in}
use Rattle.std.specs.Prelude.{Ok}

-- ── found again twice ──
-- where no key comes back, a list found again in u, and from there in v, is found again in v
refound_twice : (t u v : Table) → NotBack t u v → (ps : List Pair) → Inside t ps
    → refound u v (refound t u ps) ≡ refound t v ps
unfolding refound
refound_twice t u v n ps i =
    carried_twice _ _ _ _ ps
    ∙ carried_same _ _ _ _ ps (λ p j. go p (i p j) (ltb (refound_at t u p.row) u.count) refl)
  where
    go : (p : Pair) → p.row < t.count → (b : Bool) → ltb (refound_at t u p.row) u.count ≡ b
        → ((not (ltb (refound_at t u p.row) u.count)
        || not (ltb (refound_at u v (refound_at t u p.row)) v.count))
        ≡ not (ltb (refound_at t v p.row) v.count))
        × ((not (ltb (refound_at t u p.row) u.count)
        || not (ltb (refound_at u v (refound_at t u p.row)) v.count)) ≡ false
        → refound_at u v (refound_at t u p.row) ≡ refound_at t v p.row)
    go p l true e =
        let k : at u.key (refound_at t u p.row) ≡ at t.key p.row =
        row_key u (at t.key p.row) (ltb-true _ _ e) in
        let z : refound_at u v (refound_at t u p.row) ≡ refound_at t v p.row = ap (row_of v.key v.count) k in
        (rw (e, z), λ _. z)
    go p l false e =
        let g : NoKey v (at t.key p.row) = n p.row l ((no_key u (at t.key p.row)).0 e) in
        let z : ltb (refound_at t v p.row) v.count ≡ false = (no_key v (at t.key p.row)).1 g in
        let y : (not (ltb (refound_at t u p.row) u.count)
        || not (ltb (refound_at u v (refound_at t u p.row)) v.count)) ≡ true = rw e in
        (rw (e, z), λ h. absurd (true≢false (sym y ∙ h)))

-- the rows that it has are rows of u
refound_inside : (t u : Table) → Sound u → (ps : List Pair) → Inside u (refound t u ps)
refound_inside t u s ps q i = ((refound_in t u s ps q).0 i).2

-- ── two edits in turn ──
module _ (a b : Act) (t : Table) (d e : Done) (p : (outcome a t).answer ≡ Ok d)
    (q : (in_turn a b t).answer ≡ Ok e) where
  -- carried over the one, then over the other
  pub carry_both : NotBack t (outcome a t).table (in_turn a b t).table → (ps : List Pair) → Inside t ps
      → carried e.first e.moved (carried d.first d.moved ps) ≡ refound t (in_turn a b t).table ps
  carry_both n ps i =
      let u : Table = (outcome a t).table in
      let s : Sound (outcome a t).table = edited_sound a t (d, p) in
      ap (carried e.first e.moved) (carry_refinds a t d p ps i)
      ∙ carry_refinds b u e q (refound t u ps) (refound_inside t u s ps)
      ∙ refound_twice t u (in_turn a b t).table n ps i

-- a key that no row has and that the edit does not bring is in no row afterwards
still_none : (b : Act) (u : Table) → Fits b u → (x : ℕ) → NoKey u x → Absent x (brought (edit_of b))
    → NoKey (table_after b u) x
still_none b u f x n h j l =
    rows_all (Unlike x) (node_at (table_after b u)) (table_after b u).count j l
    (rw (after_nodes b u f) (absent_edited (edit_of b) x _ (nodes_of u) (all_rows (Unlike x) (node_at u) u.count n) h))

-- no key comes back where the second edit brings none of those that the first deleted, as no deletion and no renaming
-- does
pub not_brought : (a b : Act) (t : Table) (e : Done) → (in_turn a b t).answer ≡ Ok e
    → ((w : ℕ) → w < t.count → NoKey (outcome a t).table (at t.key w)
    → (i : ℕ) → i < brings b → at (new_keys b) i ≡ at t.key w → ⊥)
    → NotBack t (outcome a t).table (in_turn a b t).table
not_brought a b t e q h w l n =
    accepted_has (λ (e : Done) (v : Table). NoKey v (at t.key w)) b (outcome a t).table e q
    (λ f. still_none b (outcome a t).table f (at t.key w) n (key_not_brought b (at t.key w) (h w l n)))

-- ── edits in either order ──
-- an edit accepted on the table t brings no key of t
brings_none : (b : Act) (t : Table) → Fits b t → (w : ℕ) → w < t.count
    → (i : ℕ) → i < brings b → at (new_keys b) i ≡ at t.key w → ⊥
brings_none (insertion k p) t f w l i m e =
    ((insert_passes t (row_named (insertion k p) t) p).0 f.passes).fresh i m w l (sym e)
brings_none (deletion k) t f w l i m e = omega arith
brings_none (renaming k n) t f w l i m e = omega arith

-- so of two independent edits the second brings nothing back
not_back : (a b : Act) (t : Table) → Independent a b t → (e : Done) → (in_turn a b t).answer ≡ Ok e
    → NotBack t (outcome a t).table (in_turn a b t).table
not_back a b t i e q =
    not_brought a b t e q (λ w l n. brings_none b t (accepted_fits b t i.accepted_b) w l)

-- rows in use that are the same find the same
refound_same : (t u v : Table) → SameRows u v → (ps : List Pair) → refound t u ps ≡ refound t v ps
unfolding refound
refound_same t u v s ps =
    carried_same _ _ _ _ ps
    (λ p j. let z : refound_at t u p.row ≡ refound_at t v p.row = same (at t.key p.row) in
    (ap₂ (λ (x y : ℕ). not (ltb x y)) z s.count, λ _. z))
  where
    same : (k : ℕ) → row_of u.key u.count k ≡ row_of v.key v.count k
    same k =
        sym (cut_find u.count u.key u.count k (omega arith))
        ∙ ap₂ (λ (x : List ℕ) (n : ℕ). row_of x n k) s.key s.count
        ∙ cut_find v.count v.key v.count k (omega arith)

-- demand 3 for grants: over two independent edits, in either order, a list is carried to the same list
pub carry_either_order : (a b : Act) (t : Table) → Independent a b t → (ps : List Pair) → Inside t ps
    → (d e d' e' : Done) → (outcome a t).answer ≡ Ok d → (in_turn a b t).answer ≡ Ok e
    → (outcome b t).answer ≡ Ok d' → (in_turn b a t).answer ≡ Ok e'
    → carried e.first e.moved (carried d.first d.moved ps)
    ≡ carried e'.first e'.moved (carried d'.first d'.moved ps)
carry_either_order a b t i ps j d e d' e' p q p' q' =
    carry_both a b t d e p q (not_back a b t i e q) ps j
    ∙ refound_same t (in_turn a b t).table (in_turn b a t).table (either_order a b t i).2 ps
    ∙ sym (carry_both b a t d' e' p' q' (not_back b a t (flipped a b t i) e' q') ps j)
