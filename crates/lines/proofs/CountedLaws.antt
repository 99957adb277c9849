-- Counting the lines role by role: `counted_none` at the start, `counted_more` for a run more, `counted_done` at
-- the end; what the step of one role asks for at a run: `run_asks`, `counted_asks`. Assumes nothing.
use mathlib.Core.Path.{◌≡◌, refl, ap, ◌∙◌}
use mathlib.Core.List.{List}
use Prim.Native.Nat.{ℕ, ◌+◌, ◌*◌, ◌≤◌}
use native.Mathlib.Omega.{arith}
use lib.ListN.{length, length-append}
use Rattle.tree.specs.Table.{at}
use Rattle.tree.specs.Pairs.{Pair, with_role}
use Rattle.tree.specs.Step.{step_list}
use Rattle.scan.specs.OneRole.{reached, Wrote}
use Rattle.links.specs.declared.walk.Walk.{Walk}
use Rattle.marks.specs.RowSet.{Blank}
use Rattle.axis.specs.Role.{RoleAsk, RoleDone}
use Rattle.runs.specs.Runs.{pairs_from, run_rows, RunEnd}
use Rattle.runs.specs.declared.call.Call.{Call}
use Rattle.runs.specs.Lines.{asked_table, step_lines}
use Rattle.lines.specs.CallWalk.{IsWalk}
use Rattle.scan.proofs.WroteLaws.{wrote_as, wrote_length}
use Rattle.runs.proofs.RunLaws.{role_rows, run_contexts}
use Rattle.runs.proofs.StepRunLaws.{length_role, pairs_fit, step_at, step_end, row_most}

-- the lines of the pairs from place i on
abbrev pub lines_from : Call → ℕ → List Pair
lines_from call i = step_list (asked_table call) call.ask (pairs_from call.role.now call.row.now i)

-- the contexts from place i on, and before place j
abbrev pub contexts_in : Call → ℕ → ℕ → List ℕ
contexts_in call i j = run_rows call.row.now i j

-- the rows that they reach
abbrev pub rows_found : Call → ℕ → ℕ → List ℕ
rows_found call i j = role_rows (asked_table call) call.ask (contexts_in call i j)

-- the lines before place i are counted
pub record Counted (call : Call) (words scratch : List ℕ) (total i : ℕ) : Type 0 where
  pub within : i ≤ length call.role.now
  pub blank : Blank words
  pub wide : length scratch ≡ 4096
  pub small : total ≤ i * 4096
  sum : total + length (lines_from call i) ≡ length (step_lines call)

-- ── a run ──
module _ {call : Call} {walk : Walk} (w : IsWalk call walk) {i j : ℕ} (e : RunEnd call.role.now i j) where
  -- what the walk reaches at it
  pub run_reached : reached walk.axis walk.trees walk.test (contexts_in call i j) ≡ rows_found call i j
  run_reached = rw (w.axis, w.trees, w.test) refl

  -- what the step of one role asks for at it
  pub run_asks : (words out : List ℕ) → Blank words → length (rows_found call i j) ≤ length out
      → RoleAsk walk (contexts_in call i j) words out
  run_asks words out b room = record {
    asks = record {
      contexts = rw w.trees (run_contexts call.role.now call.row.now call.trees.count i j (pairs_fit call.ready) e);
      in_kind = walk.in_kind;
      in_name = walk.in_name;
      room = rw run_reached room;
    };
    blank = b;
  }

  -- what it leaves
  pub run_wrote : {words old new : List ℕ} {r : ℕ} → RoleDone walk (contexts_in call i j) words old r new
      → Wrote (rows_found call i j) old r new
  run_wrote d = wrote_as run_reached d.wrote

-- ── the count ──
module _ (call : Call) where
  pub counted_none : (words scratch : List ℕ) → Blank words → length scratch ≡ 4096 → Counted call words scratch 0 0
  counted_none words scratch b w = record {
    within = omega arith;
    blank = b;
    wide = w;
    small = omega arith;
    sum = omega arith;
  }

  module _ {words scratch : List ℕ} {total i : ℕ} (c : Counted call words scratch total i) where
    pub counted_done : length call.role.now ≤ i → total ≡ length (step_lines call)
    counted_done l =
        let z : length (lines_from call i) ≡ 0 = ap length (step_end call.ready i l) in omega (arith, c.sum)

    module _ {walk : Walk} (w : IsWalk call walk) {j : ℕ} (e : RunEnd call.role.now i j) where
      pub counted_asks : RoleAsk walk (contexts_in call i j) words scratch
      counted_asks = run_asks w e words scratch c.blank (let l = c.wide in omega (arith, row_most call.ready i j))

      module _ {words' scratch' : List ℕ} {r : ℕ}
          (d : RoleDone walk (contexts_in call i j) words' scratch r scratch') where
        wrote : Wrote (rows_found call i j) scratch r scratch'
        wrote = run_wrote w e d

        pub counted_small : r ≤ 4096
        counted_small = omega (arith, wrote.many, row_most call.ready i j)

        pub counted_more : Counted call words' scratch' (total + r) j
        counted_more =
            let rows : List ℕ = rows_found call i j in
            let many : r ≡ length rows = wrote.many in
            let lines = ap length (step_at call.ready i j e) ∙ length-append (with_role (at call.role.now i) rows) _ in
            let one = length_role (at call.role.now i) rows in
            let k = e.after in
            record {
              within = e.within;
              blank = d.blank;
              wide = wrote_length wrote (let l = c.wide in omega (arith, row_most call.ready i j)) ∙ c.wide;
              small = omega (arith, c.small, counted_small);
              sum = omega (arith, c.sum);
            }
