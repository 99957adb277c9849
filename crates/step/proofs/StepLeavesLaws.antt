-- What a step leaves, by the way it ends: refused by a check (`leaves_refused`), without room (`leaves_full`, else
-- `room_fits`), or with its lines written (`leaves_listed`). `step_only`: two ends that the contracts of
-- `step` and `step_known` allow are the same. `call_known`: what the checks that pass say. Assumes nothing.
use mathlib.Core.Path.{◌≡◌, refl, sym, ap, ap₂, ◌∙◌}
use mathlib.Core.List.{List}
use Prim.Native.Nat.{ℕ}
use lib.ListN.{length}
use Rattle.tree.specs.Table.{Table}
use Rattle.tree.specs.Pairs.{Pair, pairs_of}
use Rattle.tree.specs.declared.Ask.{Ask}
use Rattle.tree.specs.Step.{step_list}
use Rattle.tree.specs.Kept.{kept_count}
use Rattle.tree.specs.Refusal.{next, table_check, pair_check, ask_check, room_check, Checked, passed}
use Rattle.tree.specs.Outcome.{StepOutcome, step_outcome, step_if, step_check, Stepped}
use Rattle.tree.proofs.SoundLaws.{next_passed, table_passes}
use Rattle.tree.proofs.AcceptLaws.{next_next}
use Rattle.tree.proofs.StepAccept.{room_passes}
use Rattle.tree.proofs.PairColumns.{length_rows}
use Rattle.runs.specs.StepReady.{CallChecked, HasRoom, Lists}
use Rattle.step.specs.StepLeaves.{StepLeaves}
use Rattle.std.specs.Prelude.{Ok, Err}
use Rattle.tree.specs.declared.Tally.{Tally}
use Rattle.tree.specs.declared.Refusal.{Refusal}

-- refusals 1 to 7
abbrev pub call_checks : Table → Ask → List ℕ → List ℕ → Checked
call_checks t a role row = next (table_check t) (next (pair_check role row t.count) (ask_check a))

module _ (t : Table) (a : Ask) (role row : List ℕ) where
  pub call_known : call_checks t a role row ≡ passed → CallChecked t a role row
  call_known e =
      let p = (next_passed _ _).0 e in
      let q = (next_passed _ _).0 p.1 in
      record { sound = (table_passes t).0 p.0; pairs = q.0; asked = q.1 }

  known_passed : CallChecked t a role row → call_checks t a role row ≡ passed
  known_passed k = (next_passed _ _).1 ((table_passes t).1 k.sound, (next_passed _ _).1 (k.pairs, k.asked))

module _ (t : Table) (a : Ask) (role row outRole outRow : List ℕ) where
  abbrev lines : List Pair
  lines = step_list t a (pairs_of role row)

  step_check_lem : step_check t role row a outRole outRow
      ≡ next (call_checks t a role row) (room_check (length lines) outRole outRow)
  unfolding step_check
  step_check_lem =
      next_next (table_check t) (pair_check role row t.count) (ask_check a) (room_check (length lines) outRole outRow)

  pub leaves_refused : (why : Refusal) → call_checks t a role row ≡ Err why
      → StepLeaves (step_outcome t role row a outRole outRow) (Err why) outRole outRow
  unfolding step_outcome step_if next
  leaves_refused why e =
      let c : step_check t role row a outRole outRow ≡ Err why =
      step_check_lem ∙ ap (λ (x : Checked). next x (room_check (length lines) outRole outRow)) e in
      rw c (record { answers = refl; role_is = refl; row_is = refl })

  room_check_lem : CallChecked t a role row
      → step_check t role row a outRole outRow ≡ room_check (length lines) outRole outRow
  unfolding next
  room_check_lem k =
      step_check_lem
      ∙ ap (λ (x : Checked). next x (room_check (length lines) outRole outRow)) (known_passed t a role row k)

  -- without room
  pub leaves_full : (why : Refusal) → CallChecked t a role row → room_check (length lines) outRole outRow ≡ Err why
      → StepLeaves (step_outcome t role row a outRole outRow) (Err why) outRole outRow
  unfolding step_outcome step_if
  leaves_full why k e = rw (room_check_lem k ∙ e) (record { answers = refl; role_is = refl; row_is = refl })

  -- there is room in both columns
  pub room_fits : room_check (length lines) outRole outRow ≡ passed → HasRoom lines outRole outRow
  room_fits e = let h = (room_passes (length lines) outRole outRow).0 e in record { roles = h.0; rows = h.1 }

  pub leaves_listed : {tally : Tally} {newRole new_row : List ℕ} → CallChecked t a role row
      → room_check (length lines) outRole outRow ≡ passed
      → Lists lines outRole outRow tally.listed newRole new_row
      → tally.kept ≡ kept_count a.axis t.level (pairs_of role row)
      → StepLeaves (step_outcome t role row a outRole outRow) (Ok tally) newRole new_row
  unfolding step_outcome step_if
  leaves_listed k f w e = rw (room_check_lem k ∙ f) (record {
    answers = ap₂ (λ (m k : ℕ). Ok (record { listed = m; kept = k })) (w.rows.many ∙ length_rows lines) e;
    role_is = w.roles.holds;
    row_is = w.rows.holds;
  })

-- two ends that a contract allows are the same
pub step_only : {o : StepOutcome} {x y : Stepped} {a b c d : List ℕ} → StepLeaves o x a b → StepLeaves o y c d
    → (x ≡ y) × (a ≡ c) × (b ≡ d)
step_only p q = (
  p.answers ∙ sym q.answers,
  p.role_is ∙ sym q.role_is,
  p.row_is ∙ sym q.row_is,
)
