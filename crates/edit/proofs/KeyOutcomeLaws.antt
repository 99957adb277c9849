-- The outcome of an edit by key, by what the check and the search for the key answered: `check_refused`, `key_missing`,
-- for every edit; and where the search answered a row, `insert_found`, `delete_found`, `rename_found`, with `known` for
-- the edit at that row. Assumes nothing.
use mathlib.Core.Path.{◌≡◌, refl, sym, ap, ◌∙◌}
use mathlib.Core.Bool.{Bool, true, false, cond}
use Prim.Native.Nat.{ℕ, ◌≤◌}
use native.Mathlib.Omega.{arith}
use borrow.Author.Tests.{ltb-false}
use lib.Dec.{ltb}
use Rattle.tree.specs.Table.{Table}
use Rattle.tree.specs.Sound.{row_of}
use Rattle.tree.specs.Edit.{inserted, deleted, renamed, insert_done, delete_done, rename_done}
use Rattle.tree.specs.Refusal.{next, table_check, insert_check, delete_check, rename_check, Checked, passed}
use Rattle.tree.specs.Outcome.{row_there, check_outcome, located, find_outcome, found_at, edit_if, edit_check}
use Rattle.tree.specs.Outcome.{insert_outcome, delete_outcome, rename_outcome, Found, Edited}
use Rattle.tree.specs.declared.Located.{Located}
use Rattle.tree.specs.declared.Done.{Done}
use Rattle.tree.proofs.SoundLaws.{table_passes, find_at}
use Rattle.tree.proofs.FindLaws.{find_stands}
use Rattle.table.specs.RowFound.{RowKnown, RowFound}
use Rattle.edit_at.specs.AtRow.{insert_at, delete_at, rename_at}
use Rattle.edit_at.specs.EditLeaves.{EditLeaves}
use Rattle.edit_at.proofs.OutcomeLaws.{leaves, own_refused, key_unknown, key_there}
use Rattle.std.specs.Prelude.{Ok, Err}
use Rattle.tree.specs.declared.Refusal.TheVariants.{UnknownKey}
use Rattle.tree.specs.declared.Refusal.{Refusal}

module _ (t : Table) (k : ℕ) where
  -- the row of the key, if it is in use
  abbrev row : ℕ
  row = row_of t.key t.count k

  -- ── a refusal of the table: 1 or 2, which the edit answers, and leaves the columns as they were ──
  pub check_refused : (own : Checked) (d : Done) (t' : Table) {c : Checked} {a : Edited} {why : Refusal}
      → c ≡ check_outcome t → c ≡ Err why → a ≡ Err why
      → EditLeaves (edit_if (edit_check t k own) d t' t) a t.key t.size t.level t.kind t.name
  unfolding check_outcome edit_check next
  check_refused own d t' {c} {a} {why} h e q =
      let z : table_check t ≡ Err why = sym h ∙ e in
      rw q (leaves t (own_refused d t' t (rw z)))

module _ (t : Table) (k : ℕ) {c : Checked} (checked : c ≡ check_outcome t) (good : c ≡ passed)
    {f : Found} (answer : f ≡ located t.key t.level t.count k) where
  passes : table_check t ≡ passed
  unfolding check_outcome
  passes = sym checked ∙ good

  as_found : f ≡ find_outcome t k
  unfolding find_outcome next
  as_found = rw passes answer

  -- ── refusal 9 ──
  not_found : (own : Checked) {why : Refusal} → f ≡ Err why → edit_check t k own ≡ Err UnknownKey
  unfolding located
  not_found own {why} e =
      key_unknown t ((table_passes t).0 passes) k own (go (ltb (row t k) t.count) refl (sym answer ∙ e))
    where
      go : (b : Bool) → ltb (row t k) t.count ≡ b → cond b (found_at t (row t k)) (Err UnknownKey) ≡ Err why
          → t.count ≤ row t k
      go true q h = let z : ◌≡◌ {A = ℕ} 0 1 = cc in absurd (omega arith)
      go false q h = ltb-false _ _ q

  pub key_missing : (own : Checked) (d : Done) (t' : Table) {a : Edited} {why : Refusal}
      → f ≡ Err why → a ≡ Err UnknownKey
      → EditLeaves (edit_if (edit_check t k own) d t' t) a t.key t.size t.level t.kind t.name
  key_missing own d t' e h = rw h (leaves t (own_refused d t' t (not_found own e)))

  -- ── a row ──
  module _ {l : Located} (found : f ≡ Ok l) where
    -- what the edit at the row may count on
    pub known : RowFound t l
    known =
        let (sound, in_use, key, there) = find_stands t k l (sym as_found ∙ found) in
        record { known = record { sound = sound; in_use = in_use }; there = there }

    -- the row of the key is the one found
    same_row : row t k ≡ row_there l
    same_row =
        let (sound, in_use, key, there) = find_stands t k l (sym as_found ∙ found) in
        ap (row_of t.key t.count) (sym key) ∙ find_at t sound (row_there l) in_use

    -- the outcome is that of the edit at the row
    at_row : (own : ℕ → Checked) (d : ℕ → Done) (t' : ℕ → Table)
        → edit_if (edit_check t k (own (row t k))) (d (row t k)) (t' (row t k)) t
        ≡ edit_if (own (row_there l)) (d (row_there l)) (t' (row_there l)) t
    at_row own d t' =
        let s : RowKnown t (row_there l) = known.known in
        ap (λ (c : Checked). edit_if c (d (row t k)) (t' (row t k)) t)
        (key_there t s.sound k (own (row t k)) (omega (arith, same_row, s.in_use)))
        ∙ ap (λ (q : ℕ). edit_if (own q) (d q) (t' q) t) same_row

    pub insert_found : (p : Table) → insert_outcome t k p ≡ insert_at t (row_there l) p
    unfolding insert_outcome
    insert_found p = at_row (λ i. insert_check t i p) (λ i. insert_done t i p) (λ i. inserted t i p)

    pub delete_found : delete_outcome t k ≡ delete_at t (row_there l)
    unfolding delete_outcome
    delete_found = at_row (delete_check t) (delete_done t) (deleted t)

    pub rename_found : (m : ℕ) → rename_outcome t k m ≡ rename_at t (row_there l) m
    unfolding rename_outcome
    rename_found m = at_row (λ i. rename_check t i m) (λ i. rename_done t) (λ i. renamed t i m)
