-- After an accepted edit a row that was spare and still is holds what it held in all five columns: `spare_stays`. The
-- freed rows, from the new count up to the old one, are zero in all five: `freed_zero`. Every column is as long as it
-- was: `lengths_stay`. Assumes nothing.
use mathlib.Core.Path.{◌≡◌, refl, ◌∙◌}
use mathlib.Core.Bool.{◌||◌}
use mathlib.Core.List.{List}
use Prim.Native.Nat.{ℕ, ◌+◌, ◌-◌, ◌<◌, ◌≤◌}
use native.Mathlib.Omega.{arith}
use borrow.Author.Tests.{ne_eqb}
use lib.Dec.{eqb}
use lib.ListN.{length, length-map}
use lib.Seq.{get_or-set_other}
use Rattle.tree.specs.Table.{Table, at}
use Rattle.tree.specs.Rules.{InUse}
use Rattle.tree.specs.Tree.{ancestor}
use Rattle.tree.specs.Edit.{opened, closed, gap_of, inserted, deleted, renamed, insert_done, delete_done}
use Rattle.tree.specs.Edit.{rename_done}
use Rattle.tree.specs.declared.Done.{Done}
use Rattle.tree.proofs.AcceptLaws.{insert_passes, neither_of}
use Rattle.tree.proofs.ColumnLaws.{opened_spare, closed_freed, closed_spare, changed_not, length_changed}
use Rattle.tree.proofs.EditLaws.{gap_fits}
use Rattle.tree.proofs.EditSizes.{ancestor_not}
use Rattle.after_edit.specs.Act.{Act, insertion, deletion, renaming, outcome, row_named, table_after, done_of}
use Rattle.after_edit.specs.Spare.{SameAt, ZeroAt, SameLengths}
use Rattle.after_edit.proofs.ActLaws.{Fits, accepted_has, after_lengths}
use Rattle.std.specs.Prelude.{Ok}

-- a row that is spare before and after, by the definitions
after_spare : (a : Act) (t : Table) → Fits a t → (i : ℕ) → t.count ≤ i → (done_of a t).count ≤ i
    → SameAt t (table_after a t) i
unfolding inserted deleted renamed insert_done gap_of
after_spare (insertion k p) t f i l m =
    let r : ℕ = row_named (insertion k p) t in
    let v : InUse p = ((insert_passes t r p).0 f.passes).piece.in_use in
    let u : InUse t = f.sound.in_use in
    let col : (ys xs : List ℕ) → p.count ≤ length ys → t.count ≤ length xs
    → at (opened (gap_of t r) t.count p.count ys xs) i ≡ at xs i =
    λ ys xs a b. opened_spare (gap_of t r) t.count p.count ys xs i (gap_fits t f.sound r f.found) b a m in
    record {
      key = col p.key t.key v.in_key u.in_key;
      size = col p.size _ v.in_size (rw length_changed u.in_size)
          ∙ changed_not (λ i. eqb i r || ancestor t.level i r) (λ s. s + p.count) t.size i
          (neither_of (ne_eqb i r (λ e. omega (arith, f.found)))
          (ancestor_not t f.sound r f.found i (omega (arith, f.found))));
      level = col _ t.level (rw length-map v.in_level) u.in_level;
      kind = col p.kind t.kind v.in_kind u.in_kind;
      name = col p.name t.name v.in_name u.in_name;
    }
after_spare (deletion k) t f i l m =
    let r : ℕ = row_named (deletion k) t in
    let by : ℕ = at t.size r + 1 in
    let u : InUse t = f.sound.in_use in
    let col : (xs : List ℕ) → t.count ≤ length xs → at (closed r t.count by xs) i ≡ at xs i =
    λ xs a. closed_spare r t.count by xs (gap_fits t f.sound r f.found) a i l in
    record {
      key = col t.key u.in_key;
      size = col _ (rw length_changed u.in_size)
          ∙ changed_not (λ i. ancestor t.level i r) (λ s. s - by) t.size i
          (ancestor_not t f.sound r f.found i (omega (arith, f.found)));
      level = col t.level u.in_level;
      kind = col t.kind u.in_kind;
      name = col t.name u.in_name;
    }
after_spare (renaming k m) t f i l n = record {
  key = refl;
  size = refl;
  level = refl;
  kind = refl;
  name = get_or-set_other t.name (row_named (renaming k m) t) i m 0 (λ e. omega (arith, f.found));
}

-- a row that the edit frees, by the definitions
after_freed : (a : Act) (t : Table) → Fits a t → (i : ℕ) → (done_of a t).count ≤ i → i < t.count
    → ZeroAt (table_after a t) i
unfolding deleted insert_done delete_done rename_done gap_of
after_freed (insertion k p) t f i l m = absurd (omega arith)
after_freed (deletion k) t f i l m =
    let r : ℕ = row_named (deletion k) t in
    let by : ℕ = at t.size r + 1 in
    let u : InUse t = f.sound.in_use in
    let col : (xs : List ℕ) → t.count ≤ length xs → at (closed r t.count by xs) i ≡ 0 =
    λ xs a. closed_freed r t.count by xs (gap_fits t f.sound r f.found) a i l m in
    record {
      key = col t.key u.in_key;
      size = col _ (rw length_changed u.in_size);
      level = col t.level u.in_level;
      kind = col t.kind u.in_kind;
      name = col t.name u.in_name;
    }
after_freed (renaming k m) t f i l n = absurd (omega arith)

-- a row that was spare and still is holds what it held
pub spare_stays : (a : Act) (t : Table) (d : Done) → (outcome a t).answer ≡ Ok d
    → (i : ℕ) → t.count ≤ i → d.count ≤ i → SameAt t (outcome a t).table i
spare_stays a t d e i l =
    accepted_has (λ (d : Done) (u : Table). d.count ≤ i → SameAt t u i) a t d e (λ f. after_spare a t f i l)

-- the freed rows, from the new count up to the old one, are zero in all five columns
pub freed_zero : (a : Act) (t : Table) (d : Done) → (outcome a t).answer ≡ Ok d
    → (i : ℕ) → d.count ≤ i → i < t.count → ZeroAt (outcome a t).table i
freed_zero a t d e i =
    accepted_has (λ (d : Done) (u : Table). d.count ≤ i → i < t.count → ZeroAt u i) a t d e
    (λ f. after_freed a t f i)

-- every column is as long as it was
pub lengths_stay : (a : Act) (t : Table) (d : Done) → (outcome a t).answer ≡ Ok d
    → SameLengths t (outcome a t).table
lengths_stay a t d e = accepted_has (λ (d : Done) (u : Table). SameLengths t u) a t d e (after_lengths a t)
