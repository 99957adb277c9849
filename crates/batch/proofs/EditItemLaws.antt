-- The outcome of an item on a sound table, by the row of its key: refusal 9 where no row has it, `item_missing`; else
-- the edit at that row, `item_deletes` and `item_renames`, which stands as the deletion asks for, `row_found`. Assumes
-- nothing.
use mathlib.Core.Path.{◌≡◌, ap}
use mathlib.Core.Bool.{Bool, true, false, cond}
use Prim.Native.Nat.{ℕ, ◌<◌, ◌≤◌}
use borrow.Author.Tests.{eq-eqb, ne_eqb}
use lib.Dec.{eqb}
use Rattle.tree.specs.Table.{Table}
use Rattle.tree.specs.Sound.{row_of}
use Rattle.tree.specs.Rules.{Sound}
use Rattle.tree.specs.Edit.{deleted, renamed, delete_done, rename_done}
use Rattle.tree.specs.Refusal.{delete_check, rename_check, Checked}
use Rattle.tree.specs.Outcome.{row_there, standing, edit_if, delete_outcome, rename_outcome}
use Rattle.tree.specs.Batch.{item_outcome}
use Rattle.tree.specs.declared.Located.{Located}
use Rattle.tree.specs.declared.Item.{Item}
use Rattle.tree.proofs.StandingLaws.{stands_row}
use Rattle.table.specs.RowFound.{RowFound}
use Rattle.edit_at.specs.AtRow.{delete_at, rename_at}
use Rattle.edit_at.specs.EditLeaves.{EditLeaves}
use Rattle.edit_at.proofs.OutcomeLaws.{leaves, own_refused, key_unknown, key_there}
use Rattle.std.specs.Prelude.{Err}
use Rattle.tree.specs.declared.Refusal.TheVariants.{UnknownKey}

module _ (t : Table) (s : Sound t) (i : Item) where
  -- the row of its key, or the count
  abbrev row : ℕ
  row = row_of t.key t.count i.key

  -- ── no row has it ──
  pub item_missing : t.count ≤ row
      → EditLeaves (item_outcome t i) (Err UnknownKey) t.key t.size t.level t.kind t.name
  unfolding item_outcome delete_outcome rename_outcome
  item_missing l = leaves t (go (eqb i.code 1))
    where
      go : (b : Bool) → cond b (delete_outcome t i.key) (rename_outcome t i.key i.name)
          ≡ record { answer = Err UnknownKey; table = t }
      go true = own_refused _ _ t (key_unknown t s i.key _ l)
      go false = own_refused _ _ t (key_unknown t s i.key _ l)

  -- ── a row has it ──
  pub item_deletes : {r : ℕ} → r ≡ row → r < t.count → i.code ≡ 1
      → {f : Located} → f ≡ standing t.level r → item_outcome t i ≡ delete_at t (row_there f)
  unfolding item_outcome delete_outcome
  item_deletes {r} q l e w =
      rw (w, stands_row t.level r, q, eq-eqb _ _ e)
      (ap (λ (c : Checked). edit_if c (delete_done t row) (deleted t row) t)
      (key_there t s i.key (delete_check t row) (rw q at l)))

  pub item_renames : {r : ℕ} → r ≡ row → r < t.count → (i.code ≡ 1 → ⊥)
      → item_outcome t i ≡ rename_at t r i.name
  unfolding item_outcome rename_outcome
  item_renames q l n =
      rw (q, ne_eqb _ _ n)
      (ap (λ (c : Checked). edit_if c (rename_done t) (renamed t row i.name) t)
      (key_there t s i.key (rename_check t row i.name) (rw q at l)))

-- the row stands as the deletion asks for
pub row_found : (t : Table) → Sound t → (r : ℕ) → r < t.count → {f : Located} → f ≡ standing t.level r
    → RowFound t f
row_found t s r l e = rw e (record {
  known = record { sound = s; in_use = rw (stands_row t.level r) l };
  there = rw (stands_row t.level r);
})
