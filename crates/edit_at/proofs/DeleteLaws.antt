-- A deletion at a row: the rows that go are in use, `rows_fit`. Once the sizes above it have changed, what closing up
-- leaves is the outcome, `delete_made`, in columns that have the rows, `low_in_use`. A root: the only one stays,
-- `root_refused`, any other goes, `root_passes`, and no size changes, `root_sizes`. A row under a parent always goes,
-- `child_passes`, and its ancestors have the rows that go, `child_held`. Assumes nothing.
use mathlib.Core.Path.{◌≡◌, refl, sym, ap, subst, ◌∙◌}
use mathlib.Core.Bool.{Bool, true, not, ◌&&◌}
use mathlib.Core.List.{List}
use Prim.Native.Nat.{ℕ, ◌+◌, ◌-◌, ◌≤◌}
use native.Mathlib.Omega.{arith}
use borrow.Author.Tests.{eq-eqb, ne_eqb}
use lib.ListN.{length}
use Rattle.tree.specs.Table.{Table, table_of, at}
use Rattle.tree.specs.Rules.{InUse}
use Rattle.tree.specs.Tree.{ancestor, other_root}
use Rattle.tree.specs.Edit.{changed, gap_of, deleted, delete_done}
use Rattle.tree.specs.Refusal.{delete_check, passed}
use Rattle.tree.specs.Outcome.{EditOutcome, Edited}
use Rattle.tree.specs.declared.Child.{Child}
use Rattle.tree.specs.declared.Located.TheVariants.{Root, Under as Below}
use Rattle.tree.proofs.TreeLaws.{Under, parent_less, ancestor_under}
use Rattle.tree.proofs.SoundLaws.{sound_shape, sound_steps, given_not}
use Rattle.tree.proofs.LastRootLaws.{only_root_is}
use Rattle.tree.proofs.LevelLaws.{root_alone}
use Rattle.tree.proofs.StandingLaws.{root_stands, under_stands, root_level}
use Rattle.tree.proofs.ColumnLaws.{changed_none, length_changed}
use Rattle.tree.proofs.EditLaws.{gap_fits}
use Rattle.tree.proofs.EditSizes.{ancestor_larger}
use Rattle.tree.proofs.FindLaws.{given_refused}
use Rattle.table.specs.RowFound.{RowKnown, RowFound}
use Rattle.edit_at.specs.EditLeaves.{EditLeaves}
use Rattle.edit_at.specs.AtRow.{closed_up, delete_at}
use Rattle.edit_at.proofs.OutcomeLaws.{leaves, own_refused, own_passed}
use Rattle.std.specs.Prelude.{Err}
use Rattle.tree.specs.declared.Refusal.TheVariants.{DeletesRoot}

module _ (t : Table) (r : ℕ) where
  -- the row and its descendants are in use
  pub rows_fit : RowKnown t r → r + (at t.size r + 1) ≤ t.count
  unfolding gap_of
  rows_fit k = gap_fits t k.sound r k.in_use

  -- the sizes above the row fell, then every column closed up
  pub delete_made : delete_check t r ≡ passed → {low : List ℕ}
      → low ≡ changed (λ i. ancestor t.level i r) (λ s. s - (at t.size r + 1)) t.size
      → {a : Edited} {key size level kind name : List ℕ}
      → EditLeaves (closed_up (table_of t.key low t.level t.kind t.name t.count) r (at t.size r + 1))
      a key size level kind name
      → EditLeaves (delete_at t r) a key size level kind name
  unfolding deleted delete_done gap_of
  delete_made passes fall {a} {key} {size} {level} {kind} {name} left =
      subst (λ (o : EditOutcome). EditLeaves o a key size level kind name)
      (ap (λ (low : List ℕ). closed_up (table_of t.key low t.level t.kind t.name t.count) r
      (at t.size r + 1)) fall
      ∙ sym (own_passed (delete_done t r) (deleted t r) t passes))
      left

  -- the columns still have the rows in use
  pub low_in_use : {low : List ℕ}
      → low ≡ changed (λ i. ancestor t.level i r) (λ s. s - (at t.size r + 1)) t.size
      → InUse t → InUse (table_of t.key low t.level t.kind t.name t.count)
  low_in_use fall u = record {
    some = u.some;
    few = u.few;
    in_key = u.in_key;
    in_size = omega (
      arith,
      u.in_size,
      ap length fall,
      length_changed (λ i. ancestor t.level i r)
          (λ s. s - (at t.size r + 1)) t.size,
    );
    in_level = u.in_level;
    in_kind = u.in_kind;
    in_name = u.in_name;
  }

-- ── a root ──
module _ (t : Table) (r : ℕ) (f : RowFound t (Root r)) where
  -- the only one stays
  pub root_refused : at t.size r + 1 ≡ t.count
      → EditLeaves (delete_at t r) (Err DeletesRoot) t.key t.size t.level t.kind t.name
  unfolding delete_check
  root_refused e =
      let lone = only_root_is t f.known.sound r f.known.in_use ∙ eq-eqb _ _ e in
      leaves t (own_refused _ _ t ((given_refused _ _ _).1 (lone, refl)))

  -- another goes
  pub root_passes : (at t.size r + 1 ≡ t.count → ⊥) → delete_check t r ≡ passed
  unfolding delete_check
  root_passes ne = given_not _ (only_root_is t f.known.sound r f.known.in_use ∙ ne_eqb _ _ ne)

  -- no row stands above it
  pub root_sizes : (by : ℕ) → t.size ≡ changed (λ i. ancestor t.level i r) (λ s. s - by) t.size
  root_sizes by =
      let shape = sound_shape t f.known.sound in
      let top = (root_level shape r f.known.in_use).0 (root_stands t.level r r (sym f.there)).1 in
      sym (changed_none _ _ t.size (root_alone shape r f.known.in_use top))

-- ── a row under a parent ──
module _ (t : Table) (c : Child) (f : RowFound t (Below c)) where
  -- it always goes
  pub child_passes : delete_check t c.row ≡ passed
  unfolding delete_check
  child_passes =
      let (same, deep, up) = under_stands t.level c.row c (sym f.there) in
      let e : at t.level c.parent + 1 ≡ at t.level c.row = parent_less t.level c.row c.parent up in
      given_not _ (ap (λ (b : Bool). b && not (other_root t.level t.count c.row))
      (ne_eqb (at t.level c.row) 0 (λ z. omega arith)))

  -- its ancestors have the rows that go
  pub child_held : (i : ℕ) → ancestor t.level i c.row ≡ true → at t.size c.row + 1 ≤ at t.size i
  child_held i e =
      let s = f.known.sound in
      let l = f.known.in_use in
      let u : Under t.level i c.row =
      (ancestor_under t.level t.count (sound_steps t s) i c.row l).0 e in
      ancestor_larger t s c.row l i (omega (arith, u.after)) e
