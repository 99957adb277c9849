-- The conditions of demand 3 on room and keys ask no more than they must. Where b is accepted after a, the limit and
-- the shortest column had room for what both bring, `room_needed`, and no key is in both pieces, `keys_needed`. So of
-- two edits whose rows are as demand 3 wants them, b is accepted after a only where they are independent: `needed`, the
-- converse of `either_order` (EitherOrder.antt). Assumes nothing.
use mathlib.Core.Path.{◌≡◌, subst, ◌∙◌}
use mathlib.Core.Bool.{false}
use Prim.Native.Nat.{ℕ, ◌+◌, ◌<◌, ◌≤◌}
use native.Mathlib.Nat.{not-suc-le-zero}
use native.Mathlib.Omega.{arith}
use Rattle.tree.specs.Table.{Table, at, shortest}
use Rattle.tree.specs.Rules.{InUse}
use Rattle.tree.specs.Tree.{ancestor}
use Rattle.tree.specs.EditRules.{InsertFits}
use Rattle.tree.specs.Edit.{inserted}
use Rattle.tree.proofs.AcceptLaws.{insert_passes}
use Rattle.after_edit.specs.Act.{Act, insertion, deletion, renaming, outcome, Accepted, row_named, brings, new_keys}
use Rattle.after_edit.specs.Act.{table_after}
use Rattle.after_edit.specs.Independent.{Independent, DeletesRoot, in_turn}
use Rattle.after_edit.specs.Planted.{Planted}
use Rattle.after_edit.proofs.ActLaws.{Fits, accepted_fits, accepted_table, after_shortest}
use Rattle.after_edit.proofs.PlantedLaws.{piece_there}

-- an accepted edit had room for what it brings
room_for : (b : Act) (t : Table) → Fits b t → (t.count + brings b ≤ 4096) × (t.count + brings b ≤ shortest t)
unfolding shortest
room_for (insertion k p) t f =
    let h : InsertFits t (row_named (insertion k p) t) p = (insert_passes t _ p).0 f.passes in (h.few, h.room)
room_for (deletion k) t f = let u : InUse t = f.sound.in_use in (omega arith, omega arith)
room_for (renaming k m) t f = let u : InUse t = f.sound.in_use in (omega arith, omega arith)

-- where b is accepted after a, there was room for what both bring
pub room_needed : (a b : Act) (t : Table) → Accepted (outcome a t) → Accepted (outcome b t) → Accepted (in_turn a b t)
    → (t.count + brings a + brings b ≤ 4096) × (t.count + brings a + brings b ≤ shortest t)
unfolding inserted
room_needed (insertion k p) b t x y z =
    let f : Fits (insertion k p) t = accepted_fits (insertion k p) t x in
    let u : Table = table_after (insertion k p) t in
    let g : Fits b u =
    accepted_fits b u (subst (λ (u : Table). Accepted (outcome b u)) (accepted_table (insertion k p) t x) z) in
    let (l, m) = room_for b u g in (omega arith, omega (arith, after_shortest (insertion k p) t f))
room_needed (deletion k) b t x y z = let (l, m) = room_for b t (accepted_fits b t y) in (omega arith, omega arith)
room_needed (renaming k n) b t x y z = let (l, m) = room_for b t (accepted_fits b t y) in (omega arith, omega arith)

-- where b is accepted after a, no key is in both pieces
pub keys_needed : (a b : Act) (t : Table) → Accepted (outcome a t) → Accepted (in_turn a b t)
    → (i j : ℕ) → i < brings a → j < brings b → at (new_keys a) i ≡ at (new_keys b) j → ⊥
keys_needed (insertion k p) (insertion l q) t x z i j m n e =
    let u : Table = (outcome (insertion k p) t).table in
    let g : Fits (insertion l q) u = accepted_fits (insertion l q) u z in
    let h : InsertFits u (row_named (insertion l q) u) q = (insert_passes u _ q).0 g.passes in
    let w : Planted t (row_named (insertion k p) t) p u i (x.0.first + i) = piece_there t k p x.0 x.1 i m in
    h.fresh j n (x.0.first + i) w.in_use (w.key ∙ e)
keys_needed (insertion k p) (deletion l) t x z i j m n e = not-suc-le-zero n
keys_needed (insertion k p) (renaming l o) t x z i j m n e = not-suc-le-zero n
keys_needed (deletion k) b t x z i j m n e = not-suc-le-zero m
keys_needed (renaming k o) b t x z i j m n e = not-suc-le-zero m

-- what demand 3 asks for beside the rows holds where b is accepted after a
pub needed : (a b : Act) (t : Table) → Accepted (outcome a t) → Accepted (outcome b t)
    → (row_named a t ≡ row_named b t → ⊥) → ancestor t.level (row_named a t) (row_named b t) ≡ false
    → ancestor t.level (row_named b t) (row_named a t) ≡ false → (DeletesRoot a t → DeletesRoot b t → ⊥)
    → Accepted (in_turn a b t) → Independent a b t
needed a b t x y d m n r z = record {
  accepted_a = x;
  accepted_b = y;
  rows_differ = d;
  a_not_above = m;
  b_not_above = n;
  one_root = r;
  keys_differ = keys_needed a b t x z;
  in_limit = (room_needed a b t x y z).0;
  in_columns = (room_needed a b t x y z).1;
}
