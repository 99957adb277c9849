-- An accepted edit's first moved row and move, read as carrying reads them: they say the same of a row, `moved_to_is`;
-- they fit, so refusal 17 is not given, `edit_moves`, and in a table of one tree the first moved row never comes to
-- row 0, `one_lands`; and the rows that they drop are those that the edit deletes, `deleted_goes`. Assumes nothing.
use mathlib.Core.Path.{◌≡◌, refl, sym, ap, ◌∙◌}
use mathlib.Core.Bool.{Bool, true, false}
use Prim.Native.Nat.{ℕ, ◌+◌, ◌-◌, ◌<◌, ◌≤◌}
use native.Mathlib.Decide.{dec_lt}
use native.Mathlib.Omega.{arith}
use borrow.Author.Tests.{eqb-false}
use lib.IntN.{pos, ◌+ℤ◌}
use Rattle.tree.specs.Table.{Table, at}
use Rattle.tree.specs.Edit.{gap_of, inserted, deleted, renamed, minus, insert_done, delete_done, rename_done}
use Rattle.tree.specs.Carry.{row_after, was_deleted}
use Rattle.tree.specs.CarryRules.{MoveFits, gone_row}
use Rattle.tree.specs.declared.Done.{Done}
use Rattle.tree.proofs.SoundLaws.{given_passed}
use Rattle.tree.proofs.AcceptLaws.{insert_passes}
use Rattle.tree.proofs.OneTreeLaws.{Lone, one_delete}
use Rattle.tree.proofs.EditLaws.{gap_fits}
use Rattle.after_edit.specs.Act.{Act, insertion, deletion, renaming, outcome, row_named, table_after, done_of}
use Rattle.after_edit.specs.Survives.{moved_to, goes}
use Rattle.after_edit.proofs.ActLaws.{Fits, accepted_has, after_sound}
use Rattle.after_edit.proofs.FoundAgain.{plus_minus, after_gap}
use Rattle.after_edit.proofs.GoneLaws.{in_gap}
use Rattle.moves.proofs.GoneRowLaws.{between, before_it, behind_it}
use Rattle.std.specs.Prelude.{Ok}

-- ── the row after the edit ──
-- what commute says of an edit's answer is what carrying does with its two numbers
pub moved_to_is : (d : Done) (w : ℕ) → moved_to d w ≡ row_after d.first d.moved w
moved_to_is d w = refl

-- ── the move fits ──
-- an edit's answer fits the table that it edits, and the count that it leaves is the new one
pub record Moved (t : Table) (d : Done) (u : Table) : Type 0 where
  pub fits : MoveFits t.count d.first d.moved
  pub count : fits.new ≡ u.count

-- the row behind a deleted row and its descendants goes to where that row was
lands_at : (t : Table) (r : ℕ) → pos (gap_of t r) +ℤ minus (at t.size r + 1) ≡ pos r
unfolding gap_of
lands_at t r =
    let by : ℕ = at t.size r + 1 in
    let z : r + by - by ≡ r = omega arith in
    plus_minus (r + by) by (omega arith) ∙ ap pos z

-- by the definitions
after_moves : (a : Act) (t : Table) → Fits a t → Moved t (done_of a t) (table_after a t)
unfolding insert_done delete_done rename_done inserted deleted renamed gap_of
after_moves (insertion k p) t f =
    let r : ℕ = row_named (insertion k p) t in
    let h = (insert_passes t r p).0 f.passes in
    record {
      fits = record {
        to = gap_of t r + p.count;
        new = t.count + p.count;
        some = omega arith;
        within = gap_fits t f.sound r f.found;
        lands = refl;
        leaves = refl;
        rows = omega (arith, f.found);
        few = h.few;
      };
      count = refl;
    }
after_moves (deletion k) t f =
    let r : ℕ = row_named (deletion k) t in
    let by : ℕ = at t.size r + 1 in
    let m : r + by ≤ t.count = gap_fits t f.sound r f.found in
    record {
      fits = record {
        to = r;
        new = t.count - by;
        some = omega arith;
        within = m;
        lands = lands_at t r;
        leaves = plus_minus t.count by (omega arith);
        rows = (after_sound (deletion k) t f).in_use.some;
        few = omega (arith, f.sound.in_use.few);
      };
      count = refl;
    }
after_moves (renaming k m) t f =
    let z : t.count + 0 ≡ t.count = omega arith in
    record {
      fits = record {
        to = t.count;
        new = t.count;
        some = f.sound.in_use.some;
        within = omega arith;
        lands = ap pos z;
        leaves = ap pos z;
        rows = f.sound.in_use.some;
        few = f.sound.in_use.few;
      };
      count = refl;
    }

-- an accepted edit's answer fits
pub edit_moves : (a : Act) (t : Table) (d : Done) → (outcome a t).answer ≡ Ok d → Moved t d (outcome a t).table
edit_moves a t d e = accepted_has (Moved t) a t d e (after_moves a t)

-- by the definitions, in a table of one tree
after_lands : (a : Act) (t : Table) → Fits a t → Lone t.level t.count → (to : ℕ)
    → pos (done_of a t).first +ℤ (done_of a t).moved ≡ pos to → 1 ≤ to
unfolding insert_done delete_done rename_done gap_of
after_lands (insertion k p) t f o to e =
    let z : gap_of t (row_named (insertion k p) t) + p.count ≡ to = cc in
    omega arith
after_lands (deletion k) t f o to e =
    let d : pos (row_named (deletion k) t) ≡ pos to = sym (lands_at t (row_named (deletion k) t)) ∙ e in
    let z : row_named (deletion k) t ≡ to = cc in
    let p = sym (one_delete t f.sound o (row_named (deletion k) t) f.found) ∙ f.passes in
    let n : row_named (deletion k) t ≡ 0 → ⊥ = eqb-false _ _ (given_passed _ _ p) in
    omega arith
after_lands (renaming k m) t f o to e =
    let z : t.count + 0 ≡ to = cc in
    omega (arith, f.sound.in_use.some)

-- in a table of one tree no accepted edit brings the first moved row to row 0: what E2 changed of 17 is not met there
pub one_lands : (a : Act) (t : Table) (d : Done) → (outcome a t).answer ≡ Ok d → Lone t.level t.count
    → (to : ℕ) → pos d.first +ℤ d.moved ≡ pos to → 1 ≤ to
one_lands a t d e o =
    accepted_has (λ (d : Done) (u : Table). (to : ℕ) → pos d.first +ℤ d.moved ≡ pos to → 1 ≤ to) a t d e
    (λ f. after_lands a t f o)

-- ── the rows that are dropped ──
-- by the definitions, the rows dropped are those that go
after_dropped : (a : Act) (t : Table) → Fits a t → (w : ℕ) → w < t.count
    → was_deleted (done_of a t).first (done_of a t).moved w ≡ goes a t w
unfolding was_deleted insert_done delete_done rename_done
after_dropped (insertion k p) t f w l =
    let g : ℕ = gap_of t (row_named (insertion k p) t) in
    elim (dec_lt w g) [
      | yes h ↦ before_it (g + p.count) g w (omega arith)
      | no h ↦ behind_it (g + p.count) g w (omega arith)
    ]
after_dropped (deletion k) t f w l = rw (lands_at t (row_named (deletion k) t)) (go (goes (deletion k) t w) refl)
  where
    r : ℕ
    r = row_named (deletion k) t

    go : (b : Bool) → goes (deletion k) t w ≡ b → gone_row r (gap_of t r) w ≡ b
    go true e = between r (gap_of t r) w (in_gap t k f w l e).0 (in_gap t k f w l e).1
    go false e = elim (dec_lt w r) [
      | yes h ↦ before_it r (gap_of t r) w h
      | no h ↦ behind_it r (gap_of t r) w (after_gap t k f w l e h)
    ]
after_dropped (renaming k m) t f w l = before_it (t.count + 0) t.count w (omega arith)

-- a row of the table is dropped exactly if the accepted edit deletes it
pub deleted_goes : (a : Act) (t : Table) (d : Done) → (outcome a t).answer ≡ Ok d
    → (w : ℕ) → w < t.count → was_deleted d.first d.moved w ≡ goes a t w
deleted_goes a t d e w l =
    accepted_has (λ (d : Done) (u : Table). was_deleted d.first d.moved w ≡ goes a t w) a t d e
    (λ f. after_dropped a t f w l)
