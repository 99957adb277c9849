-- What a list of changes leaves where its own checks refuse it: `count_refuses` (1), `row_refuses` (2),
-- `list_refuses` (18); and where they pass, `items_leave`. By the least row that is not sound, where there is none:
-- the table is sound, `rows_sound`, and that row is the count, `no_bad_row`. Assumes nothing.
use mathlib.Core.Path.{◌≡◌, refl}
use mathlib.Core.Bool.{not, false}
use mathlib.Core.List.{List}
use Prim.Native.Nat.{ℕ, ◌<◌, ◌≤◌}
use native.Mathlib.Omega.{arith}
use borrow.Author.Tests.{lt-ltb, le-ltb}
use Rattle.tree.specs.Table.{Table, count_ok}
use Rattle.tree.specs.Sound.{row_ok, first_bad}
use Rattle.tree.specs.Rules.{InUse, Sound}
use Rattle.tree.specs.Refusal.{given, next, table_check, passed}
use Rattle.tree.specs.Batch.{items_of, one_by_one, list_check, batch_check, batch_outcome}
use Rattle.tree.specs.declared.Batched.{Batched}
use Rattle.tree.proofs.SearchLaws.{least_le}
use Rattle.tree.proofs.SoundLaws.{count_ok_lem, table_passes}
use Rattle.batch.specs.BatchLeaves.{BatchLeaves}
use Rattle.items.specs.SoFar.{nothing_done}
use Rattle.tree.proofs.BatchRefusals.{batch_refused}
use Rattle.batch.proofs.BatchLaws.{batch_is}
use Rattle.batch.proofs.SoFarLaws.{batch_leaves}
use Rattle.std.specs.Prelude.{Err}
use Rattle.tree.specs.declared.Refusal.{Refusal}
use Rattle.tree.specs.declared.Refusal.TheVariants.{BadCount, UnsoundRow}

-- the check of the table, where the count fits, by the least row that is not sound
rows_pass : (t : Table) → InUse t → {b : ℕ} → b ≡ first_bad t → t.count ≤ b → table_check t ≡ passed
unfolding table_check next given
rows_pass t u e l = rw ((count_ok_lem t).1 u, ← e, le-ltb _ _ l)

pub rows_sound : (t : Table) → InUse t → {b : ℕ} → b ≡ first_bad t → t.count ≤ b → Sound t
rows_sound t u e l = (table_passes t).0 (rows_pass t u e l)

-- where it is not below the count it is the count
pub no_bad_row : (t : Table) {b : ℕ} → b ≡ first_bad t → t.count ≤ b → b ≡ t.count
unfolding first_bad
no_bad_row t e l = omega (arith, e, least_le (λ i. not (row_ok t i)) t.count)

module _ (t : Table) (code key name : List ℕ) where
  -- refused by a check, it leaves all as it was
  refused_leaves : {why : Refusal} → batch_check t code key name ≡ Err why
      → BatchLeaves (batch_outcome t code key name) (nothing_done t.count why)
      t.key t.size t.level t.kind t.name
  refused_leaves {why} h = batch_leaves (nothing_done t.count why) t refl (batch_refused t code key name why h)

  pub count_refuses : count_ok t ≡ false
      → BatchLeaves (batch_outcome t code key name) (nothing_done t.count BadCount)
      t.key t.size t.level t.kind t.name
  unfolding batch_check table_check next given
  count_refuses h = refused_leaves (rw h)

  pub row_refuses : InUse t → {b : ℕ} → b ≡ first_bad t → b < t.count
      → BatchLeaves (batch_outcome t code key name) (nothing_done t.count (UnsoundRow b))
      t.key t.size t.level t.kind t.name
  unfolding batch_check table_check next given
  row_refuses u e l = refused_leaves (rw ((count_ok_lem t).1 u, ← e, lt-ltb _ _ l))

  module _ (u : InUse t) {b : ℕ} (e : b ≡ first_bad t) (l : t.count ≤ b) where
    pub list_refuses : {why : Refusal} → list_check code key name ≡ Err why
        → BatchLeaves (batch_outcome t code key name) (nothing_done t.count why)
        t.key t.size t.level t.kind t.name
    unfolding batch_check next
    list_refuses h = refused_leaves (rw (rows_pass t u e l) h)

    pub items_leave : list_check code key name ≡ passed
        → {a : Batched} {k s v d m : List ℕ} → BatchLeaves (one_by_one 0 (items_of code key name) t) a k s v d m
        → BatchLeaves (batch_outcome t code key name) a k s v d m
    unfolding batch_check next
    items_leave h left = rw (batch_is t code key name (rw (rows_pass t u e l) h)) left
