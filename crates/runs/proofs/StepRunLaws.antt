-- The lines of a step that is ready, run by run: those of the run at a place, and those after it, `step_at`; past the
-- last pair none is left, `step_end`. What the step's check of the pairs says: `pairs_fit`. One role reaches at most
-- all rows, `row_most`, and has a line for each, `length_role`. Assumes nothing.
use mathlib.Core.Path.{◌≡◌, refl, ap, ◌∙◌}
use mathlib.Core.List.{List, [], ◌∷◌, ◌++◌}
use Prim.Native.Nat.{ℕ, suc, ◌≤◌}
use native.Mathlib.Nat.{le_trans}
use lib.ListN.{length, drop, drop_of_length-le}
use Rattle.tree.specs.Table.{Table, at}
use Rattle.tree.specs.Pairs.{pairs_of, with_role, distinct}
use Rattle.tree.specs.declared.Ask.{Ask}
use Rattle.tree.specs.Step.{step_list, lines_of}
use Rattle.tree.specs.StepRules.{PairsFit}
use Rattle.tree.proofs.SearchLaws.{gather_most}
use Rattle.tree.proofs.StepAccept.{asked_parts}
use Rattle.tree.proofs.RoleLaws.{pair_passes}
use Rattle.scan.specs.OneRole.{one_role}
use Rattle.runs.specs.Runs.{pairs_from, run_rows, RunEnd}
use Rattle.runs.specs.StepReady.{StepReady}
use Rattle.runs.proofs.RunLaws.{role_rows, step_run}

pub length_role : (r : ℕ) (cs : List ℕ) → length (with_role r cs) ≡ length cs
unfolding with_role
length_role r [] = refl
length_role r (c ∷ cs) = ap suc (length_role r cs)

-- no pairs, no lines
pub step_none : (t : Table) (a : Ask) → step_list t a [] ≡ []
unfolding step_list lines_of distinct
step_none t a = refl

module _ {t : Table} {a : Ask} {up role row : List ℕ} (s : StepReady t a up role row) where
  pub pairs_fit : PairsFit role row t.count
  pairs_fit = (pair_passes role row t.count).0 s.call.pairs

  -- the lines of the run at i, and those after it
  pub step_at : (i j : ℕ) → RunEnd role i j
      → step_list t a (pairs_from role row i)
      ≡ with_role (at role i) (role_rows t a (run_rows row i j)) ++ step_list t a (pairs_from role row j)
  step_at i j e = step_run role row t.count i j pairs_fit e t a (asked_parts a s.call.asked).1

  -- past the last pair no line is left
  pub step_end : (i : ℕ) → length role ≤ i → step_list t a (pairs_from role row i) ≡ []
  unfolding pairs_of
  step_end i l = ap (λ (rs : List ℕ). step_list t a (pairs_of rs (drop i row))) (drop_of_length-le role l)
      ∙ step_none t a

  -- one role reaches at most all rows
  pub row_most : (i j : ℕ) → length (role_rows t a (run_rows row i j)) ≤ 4096
  unfolding one_role
  row_most i j = le_trans (gather_most _ t.count) s.call.sound.in_use.few
