-- Writing the pairs that stay (`Writing`): nothing yet, `writing_none`; no more than there are, `writing_most`; no
-- fewer lie ahead than are left, `writing_ahead`, so while some are left there is one to read, `writing_reads`; one
-- pair more, `writing_more`; and all of them, `writing_done`. A few at a time (`Puts`): one, `put_one`, and one more,
-- `put_more`; while that many are left there is room for them, `writing_fits`, and then they are written,
-- `writing_puts`. Assumes nothing.
use mathlib.Core.Path.{◌≡◌, refl, sym, ap, ap₂, subst, ◌∙◌}
use mathlib.Core.Bool.{Bool, true, false, cond}
use mathlib.Core.List.{List, [], ◌∷◌, ◌++◌, append-nil}
use Prim.Native.Nat.{ℕ, zero, suc, ◌+◌, ◌<◌, ◌≤◌}
use native.Mathlib.Numerals.{add-one}
use native.Mathlib.Omega.{arith}
use lib.IntN.{ℤ, pos, nat_abs}
use lib.ListN.{length, take, drop, set, length-append, length-drop, length-set, take-append-drop}
use lib.Seq.{take-suc, take-suc-set, take-set-le, drop-set-lt}
use Rattle.tree.specs.Table.{at}
use Rattle.tree.specs.Pairs.{Pair, pair, pairs_of, roles_of, rows_of}
use Rattle.tree.specs.Outcome.{overwritten}
use Rattle.tree.specs.Carry.{row_after, carried_by, carried}
use Rattle.tree.specs.CarryRules.{new_row, gone_row}
use Rattle.tree.proofs.CarryLaws.{carried_gone, carried_stays, carried_append, carried_most}
use Rattle.tree.proofs.PairColumns.{length_roles, length_rows, roles_append, rows_append, length_pairs, pairs_at}
use Rattle.pairs_left.specs.declared.Move.{Move}
use Rattle.pairs_left.specs.Left.{Ready, Carries, carried_up_to, Begins, Writing}
use Rattle.pairs_left.specs.Left.{Filled, filled, put, puts, PutRoom, Puts}
use Rattle.pairs_left.proofs.StayLaws.{left_carried, row_to, carried_to}

-- ── a column ──
-- written as result number n, which counts only where it is kept
begins_more : {xs old new : List ℕ} {left n : ℕ} (b : Bool) (v : ℕ) → Begins xs old left n new → n < left
    → left ≤ length old → Begins (cond b xs (xs ++ (v ∷ []))) old left (n + cond b 0 1) (set new n v)
begins_more {xs} {old} {new} {left} {n} b v h l m = record {
  front = front b;
  behind = drop-set-lt left new n v l ∙ h.behind;
  long = length-set new n v ∙ h.long;
}
  where
    front : (b : Bool) → take (n + cond b 0 1) (set new n v) ≡ cond b xs (xs ++ (v ∷ []))
    front true =
        let z : n + 0 ≡ n = omega arith in
        ap (λ (k : ℕ). take k (set new n v)) z ∙ take-set-le n new n v (omega arith) ∙ h.front
    front false =
        ap (λ (k : ℕ). take k (set new n v)) (add-one n)
        ∙ take-suc-set new n v (omega (arith, h.long))
        ∙ ap (λ (ys : List ℕ). ys ++ (v ∷ [])) h.front

-- all results written
begins_all : {xs old new : List ℕ} {left : ℕ} → length xs ≡ left → Begins xs old left left new
    → new ≡ overwritten xs old
unfolding overwritten
begins_all {xs} {old} {new} {left} e h =
    sym (take-append-drop left new) ∙ ap₂ (λ (a b : List ℕ). a ++ b) h.front h.behind
    ∙ ap (λ (k : ℕ). xs ++ drop k old) (sym e)

-- ── the two columns of a list that gets one pair more, or none ──
roles_one : (b : Bool) (ps : List Pair) (p : Pair)
    → cond b (roles_of ps) (roles_of ps ++ (p.role ∷ [])) ≡ roles_of (cond b ps (ps ++ (p ∷ [])))
unfolding roles_of
roles_one true ps p = refl
roles_one false ps p = sym (roles_append ps (p ∷ []))

rows_one : (b : Bool) (ps : List Pair) (p : Pair)
    → cond b (rows_of ps) (rows_of ps ++ (p.row ∷ [])) ≡ rows_of (cond b ps (ps ++ (p ∷ [])))
unfolding rows_of
rows_one true ps p = refl
rows_one false ps p = sym (rows_append ps (p ∷ []))

length_one : (b : Bool) (ps : List Pair) (p : Pair) → length ps + cond b 0 1 ≡ length (cond b ps (ps ++ (p ∷ [])))
length_one true ps p = omega arith
length_one false ps p = sym (length-append ps (p ∷ []))

no_pairs : (ps : List Pair) → length ps ≡ 0 → ps ≡ []
no_pairs [] e = refl
no_pairs (p ∷ ps) e = absurd (omega arith)

-- ── all pairs ──
module _ (role row : List ℕ) (m : Move) (left : ℕ) (oldRole oldRow : List ℕ)
    (s : Ready role row m left oldRole oldRow) where
  -- which rows go, and where the others stand
  abbrev gone : ℕ → Bool
  gone = gone_row m.to m.first

  abbrev new : ℕ → ℕ
  new = new_row m.to m.first

  -- the whole list
  abbrev all : List Pair
  all = carried_by gone new (pairs_of role row)

  all_left : length all ≡ left
  all_left = left_carried m.to m.first role row s.pairs.even ∙ sym s.many

  -- nothing yet
  pub writing_none : Writing role row m left oldRole oldRow oldRole oldRow 0 0
  unfolding carried_by roles_of rows_of
  writing_none = record {
    within = omega arith;
    many = refl;
    roles = record { front = refl; behind = refl; long = refl };
    rows = record { front = refl; behind = refl; long = refl };
  }

  module _ {outRole outRow : List ℕ} {n i : ℕ} (w : Writing role row m left oldRole oldRow outRole outRow n i)
    where
      -- what is done and what is to come
      abbrev rest : List Pair
      rest = carried_by gone new (drop i (pairs_of role row))

      split : all ≡ carried_up_to role row m i ++ rest
      split =
          ap (carried_by gone new) (sym (take-append-drop i (pairs_of role row)))
          ∙ carried_append gone new (take i (pairs_of role row)) (drop i (pairs_of role row))

      lengths : length (carried_up_to role row m i) + length rest ≡ left
      lengths = sym (length-append (carried_up_to role row m i) rest) ∙ ap length (sym split) ∙ all_left

      -- no more are written than there are
      pub writing_most : n ≤ left
      writing_most = omega (arith, w.many, lengths)

      -- no fewer pairs lie ahead than are left to write
      pub writing_ahead : left + i ≤ n + length role
      writing_ahead =
          omega (
            arith,
            w.many,
            w.within,
            lengths,
            carried_most gone new (drop i (pairs_of role row)),
            length-drop i (pairs_of role row),
            length_pairs role row s.pairs.even,
          )

      -- while some are left there is a pair to read
      pub writing_reads : n < left → i < length role
      writing_reads l = omega (arith, writing_ahead)

      -- and room to write it
      pub writing_room : n < left → (n < length outRole) × (n < length outRow)
      writing_room l = (omega (arith, s.roles, w.roles.long), omega (arith, s.rows, w.rows.long))

      -- one result more
      next_done : i < length role → carried_up_to role row m (i + 1)
          ≡ cond (gone (at row i)) (carried_up_to role row m i)
          (carried_up_to role row m i ++ (pair (at role i) (new (at row i)) ∷ []))
      unfolding carried_by
      next_done l =
          ap (λ (k : ℕ). carried_up_to role row m k) (add-one i)
          ∙ ap (carried_by gone new) (take-suc (pairs_of role row) i (pair 0 0)
          (omega (arith, length_pairs role row s.pairs.even)))
          ∙ carried_append gone new (take i (pairs_of role row)) _
          ∙ ap (λ (p : Pair). carried_up_to role row m i
          ++ carried_by gone new (p ∷ []))
          (pairs_at role row i l (omega (arith, s.pairs.even)))
          ∙ one (gone (at row i)) refl
        where
          one : (b : Bool) → gone (at row i) ≡ b
              → carried_up_to role row m i
              ++ carried_by gone new (pair (at role i) (at row i) ∷ [])
              ≡ cond b (carried_up_to role row m i)
              (carried_up_to role row m i ++ (pair (at role i) (new (at row i)) ∷ []))
          one true e =
              ap (λ (ps : List Pair). carried_up_to role row m i ++ ps)
              (carried_gone gone new (pair (at role i) (at row i)) [] e)
              ∙ append-nil (carried_up_to role row m i)
          one false e = ap (λ (ps : List Pair). carried_up_to role row m i ++ ps)
              (carried_stays gone new (pair (at role i) (at row i)) [] e)

      -- the pair at place i written as result number n, which counts only where the pair stays
      pub writing_more : (v : ℕ) → pos v ≡ row_after m.first m.moved (at row i) → n < left
          → Writing role row m left oldRole oldRow (set outRole n (at role i)) (set outRow n v)
          (n + cond (gone (at row i)) 0 1) (i + 1)
      writing_more v e l =
          let done : List Pair = carried_up_to role row m i in
          let b : Bool = gone (at row i) in
          let p : Pair = pair (at role i) (new (at row i)) in
          let r : i < length role = writing_reads l in
          let q : pos v ≡ pos (new (at row i)) =
          e ∙ row_to m.old m.first m.moved m.to s.move s.lands (at row i) in
          let x : v ≡ new (at row i) = cc in
          let d : cond b done (done ++ (p ∷ [])) ≡ carried_up_to role row m (i + 1) = sym (next_done r) in
          rw x (record {
            within = omega arith;
            many = ap (λ (k : ℕ). k + cond b 0 1) w.many ∙ length_one b done p ∙ ap length d;
            roles = subst (λ (xs : List ℕ). Begins xs oldRole left (n + cond b 0 1) (set outRole n (at role i)))
                (roles_one b done p ∙ ap roles_of d) (begins_more b (at role i) w.roles l s.roles);
            rows = subst (λ (xs : List ℕ). Begins xs oldRow left (n + cond b 0 1) (set outRow n p.row))
                (rows_one b done p ∙ ap rows_of d) (begins_more b p.row w.rows l s.rows);
          })

      -- all of them
      pub writing_done : left ≤ n → Carries role row m oldRole oldRow outRole outRow
      writing_done l =
          let z : length rest ≡ 0 = omega (arith, w.many, lengths) in
          let y : n ≡ left = omega (arith, w.many, lengths) in
          let d : carried_up_to role row m i ≡ carried m.first m.moved (pairs_of role row) =
          sym (split ∙ ap (λ (ps : List Pair). carried_up_to role row m i ++ ps) (no_pairs rest z)
          ∙ append-nil (carried_up_to role row m i))
          ∙ sym (carried_to m.old m.first m.moved m.to s.move s.lands (pairs_of role row)) in
          let k : length (carried_up_to role row m i) ≡ left = sym w.many ∙ y in
          record {
            role_is = rw (← d) (begins_all (length_roles (carried_up_to role row m i) ∙ k)
                (subst (λ (j : ℕ). Begins (roles_of (carried_up_to role row m i)) oldRole left j outRole) y w.roles));
            row_is = rw (← d) (begins_all (length_rows (carried_up_to role row m i) ∙ k)
                (subst (λ (j : ℕ). Begins (rows_of (carried_up_to role row m i)) oldRow left j outRow) y w.rows));
          }

-- ── a few pairs ──
-- at most one result more
at_most : (n : ℕ) (b : Bool) → n + cond b 0 1 ≤ n + 1
at_most n true = omega arith
at_most n false = omega arith

module _ (role row : List ℕ) (m : Move) (i n : ℕ) (oldRole oldRow : List ℕ) where
  -- one pair
  pub put_one : (v : ℕ) → pos v ≡ row_after m.first m.moved (at row i)
      → Puts 1 role row m i n oldRole oldRow (n + cond (gone_row m.to m.first (at row i)) 0 1)
      (set oldRole n (at role i)) (set oldRow n v)
  unfolding put puts
  put_one v e =
      let z : i + 0 ≡ i = omega arith in
      let x : v ≡ nat_abs (row_after m.first m.moved (at row i)) = ap nat_abs e in
      record {
        all = rw (z, ← x);
        most = at_most n (gone_row m.to m.first (at row i));
      }

  -- one pair more
  pub put_more : {k a b : ℕ} {midRole midRow newRole new_row : List ℕ}
      → Puts k role row m i n oldRole oldRow a midRole midRow
      → Puts 1 role row m (i + k) a midRole midRow b newRole new_row
      → Puts (suc k) role row m i n oldRole oldRow b newRole new_row
  unfolding put puts
  put_more {k} {a} {b} {midRole} {midRow} {newRole} {new_row} h g =
      let z : i + k + 0 ≡ i + k = omega arith in
      record {
        all = g.all ∙ ap (λ (j : ℕ). put role row m j (filled midRole midRow a)) z
            ∙ ap (put role row m (i + k)) h.all;
        most = omega (arith, g.most, h.most);
      }

-- ── a few pairs of all ──
module _ (role row : List ℕ) (m : Move) (left : ℕ) (oldRole oldRow : List ℕ)
    (s : Ready role row m left oldRole oldRow) {outRole outRow : List ℕ} {n i : ℕ}
    (w : Writing role row m left oldRole oldRow outRole outRow n i) where
  -- while k are left there is room for k
  pub writing_fits : (k : ℕ) → n + k ≤ left → PutRoom k role row m i n outRole outRow
  writing_fits k l = record {
    few = s.few;
    pairs = s.pairs;
    move = s.move;
    read = omega (arith, writing_ahead role row m left oldRole oldRow s w);
    roles = omega (arith, s.roles, w.roles.long);
    rows = omega (arith, s.rows, w.rows.long);
  }

  -- what is written is the row's new number
  new_row_lem : (v : ℕ) → pos (nat_abs (row_after m.first m.moved v)) ≡ row_after m.first m.moved v
  new_row_lem v =
      let e = row_to m.old m.first m.moved m.to s.move s.lands v in
      ap (λ (z : ℤ). pos (nat_abs z)) e ∙ sym e

  -- the columns with k pairs more
  after : ℕ → Filled
  after k = puts k role row m i (filled outRole outRow n)

  -- more is done
  puts_writing : (k : ℕ) → n + k ≤ left
      → Writing role row m left oldRole oldRow (after k).role (after k).row (after k).next (i + k)
      × ((after k).next ≤ n + k)
  unfolding put puts after
  puts_writing zero l =
      let z : i + 0 ≡ i = omega arith in
      (rw z w, omega arith)
  puts_writing (suc k) l =
      let (h, a) = puts_writing k (omega arith) in
      let z : i + suc k ≡ i + k + 1 = omega arith in (
        rw z (writing_more role row m left oldRole oldRow s h _
            (new_row_lem (at row (i + k))) (omega arith)),
        omega (arith, a, at_most (after k).next (gone_row m.to m.first (at row (i + k)))),
      )

  -- whatever the columns and the next number are called
  pub writing_puts : {k r : ℕ} {newRole new_row : List ℕ} → n + k ≤ left
      → Puts k role row m i n outRole outRow r newRole new_row
      → Writing role row m left oldRole oldRow newRole new_row r (i + k)
  unfolding after
  writing_puts {k} l h =
      subst (λ (f : Filled). Writing role row m left oldRole oldRow
      f.role f.row f.next (i + k))
      (sym h.all) (puts_writing k l).0
