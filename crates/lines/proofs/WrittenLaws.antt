-- Writing the lines role by role: `written_none` at the start, `written_more` for a run more, `written_done` at the
-- end; what the step of one role and the filling of its roles ask for: `written_asks`, `written_room`. Assumes nothing.
use mathlib.Core.Path.{◌≡◌, refl, sym, ap, ◌∙◌}
use mathlib.Core.List.{List, [], ◌∷◌, ◌++◌, append-nil, append_assoc}
use Prim.Native.Nat.{ℕ, ◌+◌, ◌-◌, ◌*◌, ◌≤◌}
use native.Mathlib.Omega.{arith}
use lib.ListN.{length, replicate, length-append, length-drop, length-take}
use borrow.Rule.Slice.PartMut.{mid_of, put_mid}
use Rattle.tree.specs.Table.{at}
use Rattle.tree.specs.Pairs.{Pair, with_role, roles_of, rows_of}
use Rattle.tree.proofs.PairColumns.{length_roles, length_rows, roles_append, rows_append}
use Rattle.scan.specs.OneRole.{Wrote}
use Rattle.marks.specs.RowSet.{Blank}
use Rattle.axis.specs.Role.{RoleAsk, RoleDone}
use Rattle.runs.specs.Runs.{RunEnd}
use Rattle.runs.specs.StepReady.{HasRoom, Lists}
use Rattle.runs.specs.declared.call.Call.{Call}
use Rattle.runs.specs.Lines.{step_lines}
use Rattle.links.specs.declared.walk.Walk.{Walk}
use Rattle.lines.specs.CallWalk.{IsWalk}
use Rattle.scan.proofs.WroteLaws.{wrote_as, wrote_none, wrote_length, wrote_part}
use Rattle.runs.proofs.StepRunLaws.{length_role, step_at, step_end, row_most}
use Rattle.lines.proofs.CountedLaws.{lines_from, contexts_in, rows_found, run_asks, run_wrote}

-- ── the two columns of one role's pairs ──
pub rows_role : (r : ℕ) (cs : List ℕ) → rows_of (with_role r cs) ≡ cs
unfolding rows_of with_role
rows_role r [] = refl
rows_role r (c ∷ cs) = ap (λ (l : List ℕ). c ∷ l) (rows_role r cs)

pub roles_role : (r : ℕ) (cs : List ℕ) → roles_of (with_role r cs) ≡ replicate (length cs) r
unfolding roles_of with_role
roles_role r [] = refl
roles_role r (c ∷ cs) = ap (λ (l : List ℕ). r ∷ l) (roles_role r cs)

-- ── the lines before place i stand in the result columns ──
pub record Written (call : Call) (oldRole oldRow words outRole outRow : List ℕ) (m i : ℕ) : Type 0 where
  pub within : i ≤ length call.role.now
  pub blank : Blank words
  pub small : m ≤ i * 4096
  done : List Pair
  rest : step_lines call ≡ done ++ lines_from call i
  roles : Wrote (roles_of done) oldRole m outRole
  rows : Wrote (rows_of done) oldRow m outRow

module _ (call : Call) {oldRole oldRow : List ℕ} (f : HasRoom (step_lines call) oldRole oldRow) where
  pub written_none : (words : List ℕ) → Blank words → Written call oldRole oldRow words oldRole oldRow 0 0
  unfolding roles_of rows_of
  written_none words b = record {
    within = omega arith;
    blank = b;
    small = omega arith;
    done = [];
    rest = refl;
    roles = wrote_none oldRole;
    rows = wrote_none oldRow;
  }

  module _ {words outRole outRow : List ℕ} {m i : ℕ}
      (w : Written call oldRole oldRow words outRole outRow m i) where
    many : m ≡ length w.done
    many = w.rows.many ∙ length_rows w.done

    all : length (step_lines call) ≡ m + length (lines_from call i)
    all =
        ap length w.rest
        ∙ length-append w.done _
        ∙ ap (λ (k : ℕ). k + length (lines_from call i)) (sym many)

    -- the columns keep their lengths
    pub written_roles : length outRole ≡ length oldRole
    written_roles = wrote_length w.roles (let e = length_roles w.done in omega (arith, all, many, f.roles))

    pub written_rows : length outRow ≡ length oldRow
    written_rows = wrote_length w.rows (let e = length_rows w.done in omega (arith, all, many, f.rows))

    module _ {walk : Walk} (k : IsWalk call walk) {j : ℕ} (e : RunEnd call.role.now i j) where
      -- the run's rows
      abbrev found : List ℕ
      found = rows_found call i j

      run_all : length (lines_from call i)
          ≡ length found + length (lines_from call j)
      run_all =
          ap length (step_at call.ready i j e) ∙ length-append (with_role (at call.role.now i) found) _
          ∙ ap (λ (k : ℕ). k + length (lines_from call j)) (length_role (at call.role.now i) found)

      pub written_start : m ≤ length outRow
      written_start = omega (arith, all, run_all, written_rows, f.rows)

      pub written_starts : m ≤ length outRole
      written_starts = omega (arith, all, run_all, written_roles, f.roles)

      pub written_asks : RoleAsk walk (contexts_in call i j) words (mid_of m (length outRow - m) outRow)
      written_asks =
          run_asks k e words _ w.blank
          (simp (length-take, length-drop) (omega (arith, all, run_all, written_rows, f.rows)))

      module _ {words' rows' : List ℕ} {r : ℕ}
          (d : RoleDone walk (contexts_in call i j) words' (mid_of m (length outRow - m) outRow) r rows') where
        wrote : Wrote found (mid_of m (length outRow - m) outRow) r rows'
        wrote = run_wrote k e d

        pub written_room : r ≤ length (mid_of m (length outRole - m) outRole)
        written_room =
            simp (length-take, length-drop) (omega (arith, wrote.many, all, run_all, written_roles, f.roles))

        pub written_step : r ≤ 4096
        written_step = omega (arith, wrote.many, row_most call.ready i j)

        pub written_more : {roles' : List ℕ}
            → Wrote (replicate r (at call.role.now i)) (mid_of m (length outRole - m) outRole) r roles'
            → Written call oldRole oldRow words' (put_mid m (length outRole - m) outRole roles')
            (put_mid m (length outRow - m) outRow rows') (m + r) j
        written_more g = record {
          within = e.within;
          blank = d.blank;
          small = omega (arith, w.small, written_step, e.after);
          done = w.done ++ with_role (at call.role.now i) found;
          rest = w.rest ∙ ap (λ (l : List Pair). w.done ++ l) (step_at call.ready i j e)
              ∙ sym (append_assoc w.done (with_role (at call.role.now i) found) (lines_from call j));
          roles = wrote_as (sym (roles_append w.done _ ∙ ap (λ (l : List ℕ). roles_of w.done ++ l)
              (roles_role (at call.role.now i) found
              ∙ ap (λ (k : ℕ). replicate k (at call.role.now i)) (sym wrote.many))))
              (wrote_part w.roles g);
          rows = wrote_as (sym (rows_append w.done _ ∙ ap (λ (l : List ℕ). rows_of w.done ++ l)
              (rows_role (at call.role.now i) found))) (wrote_part w.rows wrote);
        }

    pub written_done : length call.role.now ≤ i → Lists (step_lines call) oldRole oldRow m outRole outRow
    written_done l =
        let e : step_lines call ≡ w.done =
        w.rest ∙ ap (λ (l : List Pair). w.done ++ l) (step_end call.ready i l) ∙ append-nil w.done in
        record {
          roles = wrote_as (ap roles_of (sym e)) w.roles;
          rows = wrote_as (ap rows_of (sym e)) w.rows;
        }
