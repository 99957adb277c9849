-- An edit is accepted exactly if no refusal applies, `accepted_fits`, `fits_accepted`. The answer and the table of an
-- accepted edit are those that the definitions give, `accepted_answer`, `accepted_table`, `accepted_has`. The table
-- after it is sound, `after_sound`, has the edited nodes, `after_nodes`, at most as many rows more as came in,
-- `after_count`, and columns as long as before, `after_lengths`, `after_shortest`. Assumes nothing.
use mathlib.Core.Path.{◌≡◌, refl, sym, ap, ap₂, subst, subst₂, ◌∙◌}
use mathlib.Core.List.{List, map}
use Prim.Native.Nat.{ℕ, ◌+◌, ◌≤◌, min}
use native.Mathlib.Omega.{arith}
use lib.ListN.{length, length-set, length-map}
use Rattle.tree.specs.Table.{Table, at, shortest}
use Rattle.tree.specs.Sound.{row_of}
use Rattle.tree.specs.Rules.{InUse, Sound}
use Rattle.tree.specs.EditRules.{InsertFits, EditFits}
use Rattle.tree.specs.Edit.{opened, closed, gap_of, inserted, deleted, renamed}
use Rattle.tree.specs.Refusal.{insert_check, delete_check, rename_check, Checked, passed}
use Rattle.tree.specs.Outcome.{EditOutcome, edit_if, edit_check, insert_outcome, delete_outcome, rename_outcome}
use Rattle.tree.specs.declared.Done.{Done}
use Rattle.tree.proofs.AcceptLaws.{insert_passes, delete_passes, rename_passes, edit_passes}
use Rattle.tree.proofs.ColumnLaws.{length_opened, length_closed, length_changed}
use Rattle.tree.proofs.Nodes.{nodes_of, Edit, ins, del, ren, edited}
use Rattle.tree.proofs.EditLaws.{gap_fits, nodes_inserted, nodes_deleted, nodes_renamed}
use Rattle.tree.proofs.EditSound.{sound_inserted, sound_deleted, sound_renamed}
use Rattle.after_edit.specs.Act.{Act, insertion, deletion, renaming, outcome, Accepted, key_of, row_named, brings}
use Rattle.after_edit.specs.Act.{table_after, done_of}
use Rattle.after_edit.specs.Spare.{SameLengths}
use Rattle.std.specs.Prelude.{Ok, Err}

-- ── accepted in plain words ──
-- the edit's own check of the row that it names
abbrev pub own : Act → Table → Checked
own (insertion k p) t = insert_check t (row_of t.key t.count k) p
own (deletion k) t = delete_check t (row_of t.key t.count k)
own (renaming k m) t = rename_check t (row_of t.key t.count k) m

-- no refusal applies
abbrev pub Fits : Act → Table → Type 0
Fits a t = EditFits t (key_of a) (own a t)

-- the three outcomes as one
pub outcome_is : (a : Act) (t : Table)
    → outcome a t ≡ edit_if (edit_check t (key_of a) (own a t)) (done_of a t) (table_after a t) t
unfolding insert_outcome delete_outcome rename_outcome
outcome_is (insertion k p) t = refl
outcome_is (deletion k) t = refl
outcome_is (renaming k m) t = refl

-- an outcome that is no refusal passed its check
made_passed : (c : Checked) (d : Done) (u t : Table) → Accepted (edit_if c d u t) → c ≡ passed
unfolding edit_if
made_passed (Ok v) d u t h = refl
made_passed (Err why) d u t h =
    let e : Err why ≡ Ok h.0 = h.1 in
    let z : ◌≡◌ {A = ℕ} 0 1 = cc in
    absurd (omega arith)

-- no refusal applies to an accepted edit
pub accepted_fits : (a : Act) (t : Table) → Accepted (outcome a t) → Fits a t
accepted_fits a t h =
    (edit_passes t (key_of a) (own a t)).0
    (made_passed _ (done_of a t) (table_after a t) t (subst Accepted (outcome_is a t) h))

-- the outcome where no refusal applies
fits_outcome : (a : Act) (t : Table) → Fits a t
    → outcome a t ≡ record { answer = Ok (done_of a t); table = table_after a t }
unfolding edit_if
fits_outcome a t f =
    outcome_is a t
    ∙ ap (λ (c : Checked). edit_if c (done_of a t) (table_after a t) t) ((edit_passes t (key_of a) (own a t)).1 f)

-- then the edit is accepted
pub fits_accepted : (a : Act) (t : Table) → Fits a t → Accepted (outcome a t)
fits_accepted a t f = (done_of a t, ap (λ (o : EditOutcome). o.answer) (fits_outcome a t f))

-- an accepted edit answers what the definitions say
pub accepted_answer : (a : Act) (t : Table) → Accepted (outcome a t) → (outcome a t).answer ≡ Ok (done_of a t)
accepted_answer a t h = ap (λ (o : EditOutcome). o.answer) (fits_outcome a t (accepted_fits a t h))

-- and leaves the table that they say
pub accepted_table : (a : Act) (t : Table) → Accepted (outcome a t) → (outcome a t).table ≡ table_after a t
accepted_table a t h = ap (λ (o : EditOutcome). o.table) (fits_outcome a t (accepted_fits a t h))

-- so what holds of these holds of the call's own answer and table
pub accepted_has : (P : Done → Table → Type 0) (a : Act) (t : Table) (d : Done) → (outcome a t).answer ≡ Ok d
    → (Fits a t → P (done_of a t) (table_after a t)) → P d (outcome a t).table
accepted_has P a t d e h =
    let o : Accepted (outcome a t) = (d, e) in
    let q : Ok (done_of a t) ≡ Ok d = sym (accepted_answer a t o) ∙ e in
    subst₂ P (cc) (sym (accepted_table a t o)) (h (accepted_fits a t o))

-- ── the table after an edit ──
-- it is sound
pub after_sound : (a : Act) (t : Table) → Fits a t → Sound (table_after a t)
after_sound (insertion k p) t f =
    sound_inserted t f.sound k f.found p ((insert_passes t (row_of t.key t.count k) p).0 f.passes)
after_sound (deletion k) t f =
    sound_deleted t f.sound k f.found ((delete_passes t (row_of t.key t.count k)).0 f.passes)
after_sound (renaming k m) t f =
    let r : ℕ = row_of t.key t.count k in
    sound_renamed t f.sound r m f.found ((rename_passes t r m).0 f.passes)

-- the edit as one of nodes
abbrev pub edit_of : Act → Edit
edit_of (insertion k p) = ins (nodes_of p)
edit_of (deletion k) = del
edit_of (renaming k m) = ren m

-- its nodes are the edited ones
pub after_nodes : (a : Act) (t : Table) → Fits a t
    → nodes_of (table_after a t) ≡ edited (edit_of a) (key_of a) (nodes_of t)
after_nodes (insertion k p) t f =
    nodes_inserted t f.sound k f.found p
    ((insert_passes t (row_of t.key t.count k) p).0 f.passes).piece.in_use
after_nodes (deletion k) t f = nodes_deleted t f.sound k f.found
after_nodes (renaming k m) t f = nodes_renamed t f.sound k f.found m

-- it has at most as many rows more as came in
pub after_count : (a : Act) (t : Table) → (table_after a t).count ≤ t.count + brings a
unfolding inserted deleted renamed
after_count (insertion k p) t = omega arith
after_count (deletion k) t = omega arith
after_count (renaming k m) t = omega arith

-- every column is as long as it was
pub after_lengths : (a : Act) (t : Table) → Fits a t → SameLengths t (table_after a t)
unfolding inserted deleted renamed gap_of shortest
after_lengths (insertion k p) t f =
    let r : ℕ = row_named (insertion k p) t in
    let i : InsertFits t r p = (insert_passes t r p).0 f.passes in
    let u : InUse p = i.piece.in_use in
    let n : t.count + p.count ≤ shortest t = i.room in
    let col : (ps zs xs : List ℕ) → length zs ≡ length xs → p.count ≤ length ps → t.count + p.count ≤ length xs
    → length (opened (gap_of t r) t.count p.count ps zs) ≡ length xs =
    λ ps zs xs e a b.
    length_opened _ t.count p.count ps zs (gap_fits t f.sound r f.found) a (omega arith) ∙ e in
    record {
      key = col p.key _ t.key refl u.in_key (omega arith);
      size = col p.size _ t.size (length_changed _ _ t.size) u.in_size (omega arith);
      level = col (map (λ v. v + (at t.level r + 1)) p.level) _ t.level refl (rw length-map u.in_level)
          (omega arith);
      kind = col p.kind _ t.kind refl u.in_kind (omega arith);
      name = col p.name _ t.name refl u.in_name (omega arith);
    }
after_lengths (deletion k) t f =
    let r : ℕ = row_named (deletion k) t in
    let by : ℕ = at t.size r + 1 in
    let u : InUse t = f.sound.in_use in
    let col : (zs xs : List ℕ) → length zs ≡ length xs → t.count ≤ length xs
    → length (closed r t.count by zs) ≡ length xs =
    λ zs xs e a. length_closed r t.count by zs (gap_fits t f.sound r f.found) (omega arith) ∙ e in
    record {
      key = col _ t.key refl u.in_key;
      size = col _ t.size (length_changed _ _ t.size) u.in_size;
      level = col _ t.level refl u.in_level;
      kind = col _ t.kind refl u.in_kind;
      name = col _ t.name refl u.in_name;
    }
after_lengths (renaming k m) t f = record {
  key = refl;
  size = refl;
  level = refl;
  kind = refl;
  name = length-set t.name (row_named (renaming k m) t) m;
}

-- so is the shortest
pub after_shortest : (a : Act) (t : Table) → Fits a t → shortest (table_after a t) ≡ shortest t
unfolding shortest
after_shortest a t f =
    let s : SameLengths t (table_after a t) = after_lengths a t f in
    ap₂ min s.key (ap₂ min s.size (ap₂ min s.level (ap₂ min s.kind s.name)))
