-- The kept count run by run: `kept_run`; and the loop that adds it up: `keeping_none`, `keeping_more`, `keeping_done`.
-- Assumes nothing.
use mathlib.Core.Path.{◌≡◌, ap, ◌∙◌}
use mathlib.Core.List.{List}
use Prim.Native.Nat.{ℕ, ◌+◌, ◌-◌, ◌≤◌}
use native.Mathlib.Omega.{arith}
use lib.ListN.{length, drop, length-take, length-drop, drop_of_length-le}
use Rattle.tree.specs.Table.{at}
use Rattle.tree.specs.Pairs.{pairs_of, with_role}
use Rattle.tree.specs.Kept.{remaining, kept_count}
use Rattle.tree.specs.StepRules.{PairsFit}
use Rattle.tree.proofs.KeptLaws.{kept_split}
use Rattle.kept_rows.specs.KeptOf.{kept_of, KeptIn}
use Rattle.links.specs.declared.walk.Walk.{Walk}
use Rattle.lines.specs.CallWalk.{IsWalk}
use Rattle.runs.specs.declared.call.Call.{Call}
use Rattle.runs.specs.Runs.{pairs_from, run_rows, RunEnd}
use Rattle.runs.proofs.RunLaws.{pairs_from_run, rest_above, run_contexts}
use Rattle.runs.proofs.StepRunLaws.{pairs_fit}
use Rattle.kept_rows.proofs.KeptOfLaws.{kept_role, kept_most}

-- how many pairs are kept of those from place i on, and of all
abbrev kept_from : Call → ℕ → ℕ
kept_from call i = kept_count call.ask.axis call.trees.level.now (pairs_from call.role.now call.row.now i)

abbrev pub kept_all : Call → ℕ
kept_all call = kept_count call.ask.axis call.trees.level.now (pairs_of call.role.now call.row.now)

-- how many contexts are kept of those from place i on, and before place j
abbrev pub kept_in : Call → ℕ → ℕ → ℕ
kept_in call i j = kept_of call.ask.axis call.trees.level.now (run_rows call.row.now i j)

-- the pairs before place i are counted
pub record Keeping (call : Call) (kept i : ℕ) : Type 0 where
  pub within : i ≤ length call.role.now
  pub small : kept ≤ i
  sum : kept + kept_from call i ≡ kept_all call

module _ (call : Call) where
  fit : PairsFit call.role.now call.row.now call.trees.count
  fit = pairs_fit call.ready

  pub keeping_none : Keeping call 0 0
  keeping_none = record { within = omega arith; small = omega arith; sum = omega arith }

  pub keeping_done : {kept i : ℕ} → Keeping call kept i → length call.role.now ≤ i → kept ≡ kept_all call
  unfolding kept_count remaining pairs_of
  keeping_done {kept} {i} k l =
      let z : kept_from call i ≡ 0 =
      ap (λ (rs : List ℕ). kept_count call.ask.axis call.trees.level.now (pairs_of rs (drop i call.row.now)))
      (drop_of_length-le call.role.now l) in
      omega (arith, k.sum)

  module _ {walk : Walk} (w : IsWalk call walk) {i j : ℕ} (e : RunEnd call.role.now i j) where
    part_length : length (run_rows call.row.now i j) ≡ j - i
    part_length = simp (length-take, length-drop) (omega (arith, e.within, fit.even))

    pub keeping_asks : KeptIn walk.trees (run_rows call.row.now i j)
    keeping_asks = record {
      contexts = rw w.trees (run_contexts call.role.now call.row.now call.trees.count i j fit e);
      few = omega (arith, part_length, e.within, fit.few);
    }

    kept_run : kept_from call i ≡ kept_in call i j + kept_from call j
    kept_run =
        let axis = call.ask.axis in let level = call.trees.level.now in
        let role = call.role.now in let row = call.row.now in
        ap (kept_count axis level) (pairs_from_run role row call.trees.count i j fit e)
        ∙ kept_split axis level (with_role (at role i) (run_rows row i j)) (pairs_from role row j)
        (rest_above role row call.trees.count i j fit e)
        ∙ ap (λ (k : ℕ). k + kept_from call j) (kept_role axis level (at role i) (run_rows row i j))

    -- a run keeps at most its pairs
    kept_most_in : kept_in call i j ≤ j - i
    kept_most_in = omega (arith, kept_most call.ask.axis call.trees.level.now (run_rows call.row.now i j), part_length)

    pub run_most : kept_of walk.axis walk.trees.level.now (run_rows call.row.now i j) ≤ j - i
    run_most = rw (w.axis, w.trees) kept_most_in

    pub keeping_more : {kept r : ℕ} → Keeping call kept i
        → r ≡ kept_of walk.axis walk.trees.level.now (run_rows call.row.now i j) → Keeping call (kept + r) j
    keeping_more {kept} {r} k h = let q : r ≡ kept_in call i j = rw (w.axis, w.trees) at h in record {
      within = e.within;
      small = omega (arith, k.small, kept_most_in, e.after);
      sum = omega (arith, k.sum, kept_run);
    }
