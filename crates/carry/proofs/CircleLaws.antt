-- Step, edit, carry, step. Over an accepted edit carrying takes every list that a step takes, if there is room for it,
-- `carry_takes`: 17 is not given, `no_seventeen`. The next step takes what it leaves at the front of the result
-- columns, as it is, `next_takes`: only 6, 7 and 8 can refuse it, `next_step`. Assumes nothing.
use mathlib.Core.Path.{◌≡◌, refl, sym, ap, ap₂, subst, ◌∙◌}
use mathlib.Core.Logic.{⊎_elim}
use mathlib.Core.Bool.{not, true≢false}
use mathlib.Core.List.{List}
use Prim.Native.Nat.{ℕ, ◌≤◌}
use native.Mathlib.Omega.{arith}
use lib.ListN.{length, take}
use lib.Seq.{take-append_seam}
use Rattle.tree.specs.Table.{Table}
use Rattle.tree.specs.Pairs.{Pair, pairs_of, roles_of, rows_of}
use Rattle.tree.specs.StepRules.{PairsFit}
use Rattle.tree.specs.Refusal.{given_at, next, pair_check, ask_check, room_check, Checked, passed}
use Rattle.tree.specs.declared.Ask.{Ask}
use Rattle.tree.specs.Step.{step_list}
use Rattle.tree.specs.Outcome.{overwritten, step_check}
use Rattle.tree.specs.Carry.{carried, carry_if, carry_check, carry_outcome}
use Rattle.tree.specs.declared.Done.{Done}
use Rattle.tree.proofs.SoundLaws.{next_first, table_passes}
use Rattle.tree.proofs.FindLaws.{given_refused}
use Rattle.tree.proofs.RoleLaws.{pair_passes}
use Rattle.tree.proofs.RowMoveLaws.{move_ok_lem}
use Rattle.tree.proofs.PairColumns.{pairs_columns, length_roles, length_rows}
use Rattle.tree.proofs.CarryAccept.{carry_accepted, carried_fits}
use Rattle.after_edit.specs.Act.{Act, outcome}
use Rattle.after_edit.proofs.ActLaws.{accepted_fits}
use Rattle.after_edit.proofs.FoundAgain.{edited_sound}
use Rattle.carry.proofs.EditMoveLaws.{edit_moves}
use Rattle.std.specs.Prelude.{Ok, Err}
use Rattle.tree.specs.Number.{number}
use Rattle.tree.specs.declared.Refusal.TheVariants.{BadMove}

module _ (a : Act) (t : Table) (d : Done) (e : (outcome a t).answer ≡ Ok d) (role row : List ℕ) where
  -- the new list
  abbrev new_list : List Pair
  new_list = carried d.first d.moved (pairs_of role row)

  -- no check of the pairs gives 17
  pairs_number : pair_check role row t.count ≡ Err BadMove → ⊥
  unfolding pair_check given_at
  pairs_number x =
      ⊎_elim (λ y. omega (arith, ap number ((given_refused _ _ _).0 y).1))
      (λ y. ⊎_elim (λ z. omega (arith, ap number ((given_refused _ _ _).0 z).1))
      (λ z. omega (arith, ap number ((given_refused _ _ _).0 z.1).1))
      ((next_first _ _ BadMove).0 y.1))
      ((next_first _ _ BadMove).0 x)

  -- nor does any other check of the call
  check_number : (outRole outRow : List ℕ)
      → carry_check role row t.count d.first d.moved outRole outRow ≡ Err BadMove → ⊥
  unfolding carry_check room_check
  check_number outRole outRow x =
      ⊎_elim (λ y. omega (arith, ap number ((given_refused _ _ _).0 y).1))
      (λ y. ⊎_elim pairs_number
      (λ z. ⊎_elim
      (λ v. true≢false (sym ((given_refused _ _ _).0 v).0
      ∙ ap not ((move_ok_lem t.count d.first d.moved).1 (edit_moves a t d e).fits)))
      (λ v. omega (arith, ap number ((given_refused _ _ _).0 v.1).1))
      ((next_first _ _ BadMove).0 z.1))
      ((next_first _ _ BadMove).0 y.1))
      ((next_first _ _ BadMove).0 x)

  -- 17 is not given, whatever the pairs and the room
  pub no_seventeen : (outRole outRow : List ℕ)
      → (carry_outcome role row t.count d.first d.moved outRole outRow).answer ≡ Err BadMove → ⊥
  unfolding carry_outcome carry_if
  no_seventeen outRole outRow h = go (carry_check role row t.count d.first d.moved outRole outRow) refl h
    where
      go : (c : Checked) → carry_check role row t.count d.first d.moved outRole outRow ≡ c
          → (carry_if c new_list outRole outRow).answer ≡ Err BadMove → ⊥
      go (Ok u) x h = let z : ◌≡◌ {A = ℕ} 0 1 = cc in omega arith
      go (Err why) x h = check_number outRole outRow (x ∙ cc)

  -- pairs that fit the table, and room for the new list: carrying is accepted
  pub carry_takes : PairsFit role row t.count → (outRole outRow : List ℕ) → length new_list ≤ length outRole
      → length new_list ≤ length outRow
      → carry_outcome role row t.count d.first d.moved outRole outRow ≡ record {
        answer = Ok (length new_list);
        role = overwritten (roles_of new_list) outRole;
        row = overwritten (rows_of new_list) outRow;
      }
  carry_takes f outRole outRow x y =
      carry_accepted role row t.count d.first d.moved outRole outRow (record {
        some = (accepted_fits a t (d, e)).sound.in_use.some;
        few = (accepted_fits a t (d, e)).sound.in_use.few;
        pairs = f;
        move = (edit_moves a t d e).fits;
        roles = x;
        rows = y;
      })

  -- the places that it writes hold the new list, which fits the edited table: refusals 3 to 5 do not apply to it
  pub next_takes : PairsFit role row t.count → (outRole outRow : List ℕ)
      → (pairs_of (take (length new_list) (overwritten (roles_of new_list) outRole))
      (take (length new_list) (overwritten (rows_of new_list) outRow)) ≡ new_list)
      × (pair_check (take (length new_list) (overwritten (roles_of new_list) outRole))
      (take (length new_list) (overwritten (rows_of new_list) outRow)) (outcome a t).table.count ≡ passed)
  unfolding overwritten
  next_takes f outRole outRow =
      let m = edit_moves a t d e in
      let r : take (length new_list) (overwritten (roles_of new_list) outRole) ≡ roles_of new_list =
      ap (λ (n : ℕ). take n (overwritten (roles_of new_list) outRole)) (sym (length_roles new_list))
      ∙ take-append_seam (roles_of new_list) _ in
      let w : take (length new_list) (overwritten (rows_of new_list) outRow) ≡ rows_of new_list =
      ap (λ (n : ℕ). take n (overwritten (rows_of new_list) outRow)) (sym (length_rows new_list))
      ∙ take-append_seam (rows_of new_list) _ in (
        ap₂ pairs_of r w ∙ pairs_columns new_list,
        rw (r, w) ((pair_passes _ _ _).1 (subst (PairsFit (roles_of new_list) (rows_of new_list)) m.count
            (carried_fits t.count d.first d.moved m.fits role row f))),
      )

  -- so of that step only the codes and the room are left to check: 6, 7 and 8
  pub next_step : PairsFit role row t.count → (outRole outRow : List ℕ) (q : Ask) (stepRole stepRow : List ℕ)
      → step_check (outcome a t).table (take (length new_list) (overwritten (roles_of new_list) outRole))
      (take (length new_list) (overwritten (rows_of new_list) outRow)) q stepRole stepRow
      ≡ next (ask_check q) (room_check (length (step_list (outcome a t).table q new_list)) stepRole stepRow)
  unfolding step_check next
  next_step f outRole outRow q stepRole stepRow =
      let (same, fits) = next_takes f outRole outRow in
      rw ((table_passes (outcome a t).table).1 (edited_sound a t (d, e)), fits, same)
