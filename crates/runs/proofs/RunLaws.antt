-- The step of many roles, run by run: the lines of the pairs from a place on are those of the run that begins
-- there, then those of the pairs after it (`step_run`). The run's lines are its role with the rows of one role
-- (`run_lines`), and its rows are contexts (`run_contexts`). Assumes nothing.
use mathlib.Core.Path.{◌≡◌, refl, sym, ap, ap₂, subst, ◌∙◌}
use mathlib.Core.Logic.{inl, inr, ⊎_elim}
use mathlib.Core.Bool.{Bool, true, false, not, ◌&&◌, ◌||◌, true≢false}
use mathlib.Core.List.{List, [], ◌∷◌, ◌++◌, append-nil}
use Prim.Native.Nat.{ℕ, zero, suc, ◌+◌, ◌-◌, ◌<◌, ◌≤◌}
use native.Mathlib.Nat.{le_refl, le_trans, le_of_suc-le-suc, not-suc-le-zero, eq-or-lt_of_le}
use native.Mathlib.Omega.{arith}
use native.Mathlib.Decide.{dec_lt}
use borrow.Author.Tests.{eq-eqb, ne_eqb, ltb-false}
use lib.Dec.{eqb, ltb}
use lib.ListN.{length, take, drop, length-take, length-drop, drop_of_length-le}
use lib.Seq.{get_or-drop, get_or-take, drop-drop, drop-cons}
use Rattle.tree.specs.Table.{Table, at}
use Rattle.tree.specs.Axis.{on_axis}
use Rattle.tree.specs.Test.{test_ok, passes}
use Rattle.tree.specs.Pairs.{Pair, pair, pairs_of, with_role, some, distinct, before, out_of_order}
use Rattle.tree.specs.declared.Ask.{Ask}
use Rattle.tree.specs.Step.{listed, reached, lines_of, step_list}
use Rattle.tree.specs.StepRules.{PairsFit}
use Rattle.tree.proofs.SearchLaws.{gather_ext}
use Rattle.tree.proofs.SoundLaws.{both_of, either_right}
use Rattle.tree.proofs.StepLaws.{In, Ordered}
use Rattle.tree.proofs.SplitLaws.{RolesBelow, step_split}
use Rattle.tree.proofs.RoleLaws.{Level, all_above, level_ordered, in_order}
use Rattle.scan.specs.Want.{want_of, fits}
use Rattle.scan.specs.OneRole.{any_on, one_role, Contexts}
use Rattle.runs.specs.Runs.{pairs_from, run_rows, RunEnd}
use Rattle.scan.proofs.WantLaws.{fits_passes}

-- ── one role's lines ──
some_role : (f : ℕ → Bool) (r : ℕ) (cs : List ℕ) → some f r (with_role r cs) ≡ some f 0 (with_role 0 cs)
unfolding some with_role
some_role f r [] = refl
some_role f r (c ∷ cs) =
    ap₂ (λ (a b : Bool). (a && f c) || b) (eq-eqb r r refl) (some_role f r cs)

some_any : (axis : ℕ) (level : List ℕ) (r w : ℕ) (cs : List ℕ)
    → some (λ c. on_axis axis level c w) r (with_role r cs) ≡ any_on axis level cs w
unfolding some with_role any_on
some_any axis level r w [] = refl
some_any axis level r w (c ∷ cs) =
    ap₂ (λ (a b : Bool). (a && on_axis axis level c w) || b) (eq-eqb r r refl) (some_any axis level r w cs)

distinct_one : (r c : ℕ) (cs : List ℕ) → distinct (with_role r (c ∷ cs)) ≡ r ∷ []
unfolding distinct with_role
distinct_one r c [] = refl
distinct_one r c (d ∷ cs) = rw (eq-eqb r r refl) (distinct_one r d cs)

and_comm : (a b : Bool) → (a && b) ≡ (b && a)
and_comm true true = refl
and_comm true false = refl
and_comm false true = refl
and_comm false false = refl

-- the rows that one role reaches, by a wanted kind and name
abbrev pub role_rows : Table → Ask → List ℕ → List ℕ
role_rows t a cs =
    one_role a.axis t.level t.count (fits (want_of a) t.kind t.name) cs

pub run_lines : (t : Table) (a : Ask) (r c : ℕ) (cs : List ℕ) → test_ok a.test a.name ≡ true
    → step_list t a (with_role r (c ∷ cs)) ≡ with_role r (role_rows t a (c ∷ cs))
unfolding step_list lines_of reached listed one_role
run_lines t a r c cs ok =
    ap (lines_of t a (with_role r (c ∷ cs))) (distinct_one r c cs) ∙ append-nil _
    ∙ ap (with_role r) (gather_ext _ _ t.count (λ w l.
    and_comm (passes a.test a.name (at t.kind w) (at t.name w)) _
    ∙ ap₂ (λ (x y : Bool). x && y) (some_any a.axis t.level r w (c ∷ cs))
    (sym (fits_passes a t.kind t.name w ok))))

-- ── the run that begins at a place ──
level_drop : (k : ℕ) (rs : List ℕ) → Level rs → Level (drop k rs)
level_drop k rs h i l =
    let n : length (drop k rs) ≡ length rs - k = length-drop k rs in
    let m : k + suc i ≡ suc (k + i) = omega arith in
    rw (get_or-drop k rs i 0, get_or-drop k rs (suc i) 0, m) (h (k + i) (omega arith))

pairs_run : (r k : ℕ) (rs ws : List ℕ) → k ≤ length rs → length rs ≡ length ws → ((x : ℕ) → x < k → at rs x ≡ r)
    → pairs_of rs ws ≡ with_role r (take k ws) ++ pairs_of (drop k rs) (drop k ws)
unfolding pairs_of with_role
pairs_run r zero rs ws l e h = refl
pairs_run r (suc k) [] ws l e h = absurd (not-suc-le-zero l)
pairs_run r (suc k) (s ∷ rs) [] l e h = absurd (let z : suc (length rs) ≡ 0 = e in omega arith)
pairs_run r (suc k) (s ∷ rs) (w ∷ ws) l e h =
    ap₂ (λ (q : ℕ) (ps : List Pair). pair q w ∷ ps) (h 0 (omega arith))
    (pairs_run r k rs ws (le_of_suc-le-suc l) (let z : suc (length rs) ≡ suc (length ws) = e in omega arith)
    (λ x m. h (suc x) (omega arith)))

-- a run of this role stands in front of the rest
role_in : (r : ℕ) (cs : List ℕ) (p : Pair) → In p (with_role r cs) → p.role ≡ r
unfolding with_role
role_in r [] p i = absurd i
role_in r (c ∷ cs) p (inl e) = ap (λ (q : Pair). q.role) e
role_in r (c ∷ cs) p (inr i) = role_in r cs p i

role_ordered : (r : ℕ) (cs : List ℕ) → Ordered (with_role r cs)
unfolding with_role
role_ordered r [] = tt
role_ordered r (c ∷ cs) = (λ q i. let e = role_in r cs q i in omega arith, role_ordered r cs)

-- of two pairs of one role in order, the second row is not less
rows_in_order : (role row : List ℕ) (k : ℕ) → out_of_order role row (suc k) ≡ false → at role (suc k) ≡ at role k
    → at row k ≤ at row (suc k)
unfolding out_of_order before
rows_in_order role row k o q =
    go (subst (λ (m : ℕ). (not (eqb (suc k) 0) && less m) ≡ false) z o) (ltb (at row (suc k)) (at row k)) refl
  where
    z : suc k - 1 ≡ k
    z = omega arith

    less : ℕ → Bool
    less m = ltb (at role (suc k)) (at role m) || (eqb (at role (suc k)) (at role m) && ltb (at row (suc k)) (at row m))

    go : (not (eqb (suc k) 0) && less k) ≡ false → (b : Bool) → ltb (at row (suc k)) (at row k) ≡ b
        → at row k ≤ at row (suc k)
    go h false e = ltb-false _ _ e
    go h true e = absurd (true≢false (sym (both_of (ap not (ne_eqb (suc k) 0 (λ y. absurd (omega arith))))
        (either_right (ltb (at role (suc k)) (at role k)) (both_of (eq-eqb (at role (suc k)) (at role k) q) e))) ∙ h))

none : (rs ws : List ℕ) → rs ≡ [] → (b : Pair) → In b (pairs_of rs ws) → ⊥
unfolding pairs_of
none [] ws z b i = i
none (r ∷ rs) ws z b i = let y : suc (length rs) ≡ 0 = ap length z in omega arith

from_front : (r w : ℕ) (rs ws : List ℕ) → Level (r ∷ rs) → (b : Pair) → In b (pairs_of (r ∷ rs) (w ∷ ws)) → r ≤ b.role
unfolding pairs_of
from_front r w rs ws h b (inl z) = let y : b.role ≡ r = ap (λ (q : Pair). q.role) z in omega arith
from_front r w rs ws h b (inr z) = all_above r rs ws h b z

module _ (role row : List ℕ) (n i j : ℕ) (p : PairsFit role row n) (e : RunEnd role i j) where
  pub roles_level : Level role
  roles_level k l = in_order role row k (p.order (suc k) l)

  pub pairs_from_run : pairs_from role row i ≡ with_role (at role i) (run_rows row i j) ++ pairs_from role row j
  pairs_from_run =
      let here : i + (j - i) ≡ j = omega (arith, e.after) in
      pairs_run (at role i) (j - i) (drop i role) (drop i row)
      (rw (length-drop i role) (omega (arith, e.within)))
      (length-drop i role ∙ ap (λ (k : ℕ). k - i) p.even ∙ sym (length-drop i row))
      (λ x l. get_or-drop i role x 0 ∙ e.same (i + x) (omega arith) (omega arith))
      ∙ ap₂ (λ (rs ws : List ℕ). with_role (at role i) (run_rows row i j) ++ pairs_of rs ws)
      (drop-drop (j - i) i role ∙ ap (λ (k : ℕ). drop k role) here)
      (drop-drop (j - i) i row ∙ ap (λ (k : ℕ). drop k row) here)

  rest_ordered : Ordered (pairs_from role row j)
  rest_ordered = level_ordered (drop j role) (drop j row) (level_drop j role roles_level)

  -- the next run's role is greater
  next_above : j < length role → at role i < at role j
  next_above l =
      let last : suc (j - 1) ≡ j = omega (arith, e.after) in
      let k : at role (j - 1) ≤ at role (suc (j - 1)) = roles_level (j - 1) (omega (arith, last)) in
      let m : at role (j - 1) ≡ at role i = e.same (j - 1) (omega (arith, e.after)) (omega (arith, e.after)) in
      let q : at role (suc (j - 1)) ≡ at role j = ap (at role) last in
      ⊎_elim (λ z. absurd (e.next l (sym z))) (λ z. z)
      (eq-or-lt_of_le (let z : at role i ≤ at role j = omega arith in z))

  pub rest_above : RolesBelow (with_role (at role i) (run_rows row i j)) (pairs_from role row j)
  rest_above a b u v = elim (dec_lt j (length role)) [
    | yes l ↦
        let w : In b (pairs_of (at role j ∷ drop (suc j) role) (at row j ∷ drop (suc j) row)) =
        subst (λ (ps : List Pair). In b ps)
        (ap₂ pairs_of (drop-cons role j 0 l) (drop-cons row j 0 (omega (arith, p.even)))) v in
        let lev : Level (at role j ∷ drop (suc j) role) =
        subst Level (drop-cons role j 0 l) (level_drop j role roles_level) in
        let m : at role j ≤ b.role =
        from_front (at role j) (at row j) (drop (suc j) role) (drop (suc j) row) lev b w in
        omega (arith, next_above l, role_in (at role i) (run_rows row i j) a u)
    | no l ↦ absurd (none (drop j role) (drop j row)
        (drop_of_length-le role (let z : length role ≤ j = omega arith in z)) b v)
  ]

  part_cons : run_rows row i j ≡ at row i ∷ take (j - suc i) (drop (suc i) row)
  part_cons =
      let k : j - i ≡ suc (j - suc i) = omega (arith, e.after) in
      let l : i < length row = omega (arith, e.after, e.within, p.even) in
      ap₂ (λ (m : ℕ) (xs : List ℕ). take m xs) k (drop-cons row i 0 l)

  -- the run's lines, then the others
  pub step_run : (t : Table) (a : Ask) → test_ok a.test a.name ≡ true
      → step_list t a (pairs_from role row i)
      ≡ with_role (at role i) (role_rows t a (run_rows row i j)) ++ step_list t a (pairs_from role row j)
  step_run t a ok =
      let cs : List ℕ = take (j - suc i) (drop (suc i) row) in
      ap (step_list t a) pairs_from_run
      ∙ step_split t a (with_role (at role i) (run_rows row i j)) (pairs_from role row j)
      (role_ordered (at role i) (run_rows row i j)) rest_ordered rest_above
      ∙ ap (λ (l : List Pair). l ++ step_list t a (pairs_from role row j)) (
      ap (λ (l : List ℕ). step_list t a (with_role (at role i) l)) part_cons
      ∙ run_lines t a (at role i) (at row i) cs ok
      ∙ ap (λ (l : List ℕ). with_role (at role i) (role_rows t a l)) (sym part_cons)
      )

  -- rows of one role do not fall
  row_step : (k : ℕ) → i ≤ k → suc k < j → at row k ≤ at row (suc k)
  row_step k l m =
      rows_in_order role row k (p.order (suc k) (omega (arith, e.within)))
      (e.same (suc k) (omega arith) m ∙ sym (e.same k l (omega arith)))

  row_rise : (d k : ℕ) → i ≤ k → k + d < j → at row k ≤ at row (k + d)
  row_rise zero k l m = let z : k + 0 ≡ k = omega arith in rw z (le_refl (at row k))
  row_rise (suc d) k l m =
      let z : k + suc d ≡ suc (k + d) = omega arith in
      rw z (le_trans (row_rise d k l (omega arith)) (row_step (k + d) (omega arith) (omega arith)))

  part_at : (x : ℕ) → x < j - i → at (run_rows row i j) x ≡ at row (i + x)
  part_at x l = rw (get_or-take, get_or-drop)

  pub run_contexts : Contexts (run_rows row i j) n
  run_contexts =
      let m : length (run_rows row i j) ≡ j - i = part_length in
      record {
        rising = λ x y l h. rw (part_at x (omega arith), part_at y (omega arith)) (
            let z : i + x + (y - x) ≡ i + y = omega arith in
            subst (λ (k : ℕ). at row (i + x) ≤ at row k) z (row_rise (y - x) (i + x) (omega arith) (omega arith))
            );
        inside = λ x h. rw (part_at x (omega arith)) (p.inside (i + x) (omega (arith, e.within)));
      }
    where
      part_length : length (run_rows row i j) ≡ j - i
      part_length = simp (length-take, length-drop) (omega (arith, e.within, p.even))
