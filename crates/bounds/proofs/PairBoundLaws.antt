-- The lines of a step are at most the rows on the axis of each pair's row, added up: `pairs_most`. What the bounds of
-- such a sum ask for: `rows_few`. Assumes nothing.
use mathlib.Core.Path.{◌≡◌, sym, ap, ◌∙◌}
use mathlib.Core.Logic.{⊎_elim}
use mathlib.Core.Bool.{Bool, not, false≢true}
use mathlib.Core.List.{List, [], ◌∷◌}
use Prim.Native.Nat.{ℕ, zero, suc, ◌+◌, ◌-◌, ◌<◌, ◌≤◌}
use native.Mathlib.Nat.{le_trans, eq-or-lt_of_le}
use native.Mathlib.Omega.{arith}
use borrow.Author.Tests.{eqb-true, eqb-false, not-true, not-false}
use lib.Dec.{eqb}
use lib.ListN.{length, drop, length-append, take-append-drop}
use lib.Seq.{drop-drop}
use Rattle.std.specs.List.{sum_by}
use Rattle.std.proofs.lemmas.List.Sums.{sum_by-cons, sum_by-append}
use Rattle.tree.specs.Search.{least, gather}
use Rattle.tree.specs.Table.{Table, at}
use Rattle.tree.specs.Axis.{on_axis}
use Rattle.tree.specs.Pairs.{pairs_of, with_role}
use Rattle.tree.specs.declared.Ask.{Ask}
use Rattle.tree.specs.Step.{step_list}
use Rattle.tree.proofs.SearchLaws.{least_le, least_below, least_passes}
use Rattle.tree.proofs.TreeLaws.{less?}
use Rattle.tree.proofs.SoundLaws.{both}
use Rattle.scan.specs.OneRole.{any_on, one_role}
use Rattle.runs.specs.Runs.{pairs_from, run_rows, RunEnd}
use Rattle.runs.specs.StepReady.{StepReady}
use Rattle.runs.specs.declared.call.Call.{Call}
use Rattle.bounds.specs.Bounds.{on_count, FewRows}
use Rattle.runs.proofs.RunLaws.{role_rows}
use Rattle.runs.proofs.StepRunLaws.{length_role, pairs_fit, step_at, step_end}
use Rattle.bounds.proofs.GatherLaws.{gather_within, gather_less, gather_either}

-- ── one role ──
any_most : (axis : ℕ) (level : List ℕ) (n : ℕ) (cs : List ℕ)
    → length (gather (any_on axis level cs) n) ≤ sum_by (on_count axis level n) cs
unfolding any_on on_count
any_most axis level n [] =
    omega (arith, gather_within (any_on axis level []) 0 0 n (λ w l e. absurd (false≢true e)))
any_most axis level n (c ∷ cs) =
    omega (
      arith,
      gather_either (λ w. on_axis axis level c w) (λ w. any_on axis level cs w) n,
      any_most axis level n cs,
      sum_by-cons (on_count axis level n) c cs,
    )

role_most : (axis : ℕ) (level : List ℕ) (n : ℕ) (test : ℕ → Bool) (cs : List ℕ)
    → length (one_role axis level n test cs) ≤ sum_by (on_count axis level n) cs
unfolding one_role
role_most axis level n test cs =
    le_trans (gather_less _ (any_on axis level cs) n (λ w l e. (both _ _ e).0)) (any_most axis level n cs)

-- ── all pairs, run by run ──
-- a run that begins at a place ends
run_exists : (role : List ℕ) (i : ℕ) → i < length role → (j : ℕ) × RunEnd role i j
run_exists role i l = (
  suc i + k,
  record {
    after = omega arith;
    within = omega (arith, least_le other (length role - suc i));
    same = λ x a b. ⊎_elim (λ (e : i ≡ x). ap (at role) (sym e)) (λ (h : i < x). inside x h b) (eq-or-lt_of_le a);
    next = λ h. eqb-false _ _ (not-true _ (least_passes other (length role - suc i) (omega arith)));
  },
)
  where
    other : ℕ → Bool
    other x = not (eqb (at role (suc i + x)) (at role i))

    k : ℕ
    k = least other (length role - suc i)

    inside : (x : ℕ) → i < x → x < suc i + k → at role x ≡ at role i
    inside x h b =
        let q : suc i + (x - suc i) ≡ x = omega arith in
        ap (at role) (sym q)
        ∙ eqb-true _ _ (not-false _ (least_below other (length role - suc i) (x - suc i) (omega arith)))

module _ {t : Table} {a : Ask} {up role row : List ℕ} (s : StepReady t a up role row) where
  -- how many rows a context reaches
  abbrev each : ℕ → ℕ
  each = on_count a.axis t.level t.count

  sum_run : (i j : ℕ) → i ≤ j → sum_by each (drop i row) ≡ sum_by each (run_rows row i j) + sum_by each (drop j row)
  sum_run i j l =
      let q : i + (j - i) ≡ j = omega arith in
      ap (sum_by each) (sym (take-append-drop (j - i) (drop i row)))
      ∙ sum_by-append each (run_rows row i j) (drop (j - i) (drop i row))
      ∙ ap (λ (xs : List ℕ). sum_by each (run_rows row i j) + sum_by each xs)
      (drop-drop (j - i) i row ∙ ap (λ (k : ℕ). drop k row) q)

  none_left : (i : ℕ) → length role ≤ i → length (step_list t a (pairs_from role row i)) ≤ sum_by each (drop i row)
  none_left i l =
      let z : length (step_list t a (pairs_from role row i)) ≡ 0 = ap length (step_end s i l) in
      omega arith

  -- the run at a place, then the pairs after it
  run_most : (i j : ℕ) → RunEnd role i j
      → length (step_list t a (pairs_from role row j)) ≤ sum_by each (drop j row)
      → length (step_list t a (pairs_from role row i)) ≤ sum_by each (drop i row)
  run_most i j e h =
      let rows : List ℕ = role_rows t a (run_rows row i j) in
      let most : length rows ≤ sum_by each (run_rows row i j) = role_most _ _ _ _ (run_rows row i j) in
      omega (
        arith,
        ap length (step_at s i j e),
        length-append (with_role (at role i) rows) (step_list t a (pairs_from role row j)),
        length_role (at role i) rows,
        sum_run i j (omega (arith, e.after)),
      )

  from_most : (fuel i : ℕ) → length role ≤ i + fuel
      → length (step_list t a (pairs_from role row i)) ≤ sum_by each (drop i row)
  from_most zero i l = none_left i (omega arith)
  from_most (suc fuel) i l = ⊎_elim
      (λ h. let r = run_exists role i h in
      run_most i r.0 r.1 (from_most fuel r.0 (omega (arith, r.1.after))))
      (none_left i)
      (less? i (length role))

  pub pairs_most : length (step_list t a (pairs_of role row)) ≤ sum_by each row
  pairs_most = from_most (length role) 0 (omega arith)

-- the rows of the pairs are few, and in use
pub rows_few : (call : Call) → FewRows call.trees call.row.now
rows_few call =
    let fit = pairs_fit call.ready in
    record {
      inside = λ i l. fit.inside i (omega (arith, fit.even));
      few = omega (arith, fit.even, fit.few);
    }
