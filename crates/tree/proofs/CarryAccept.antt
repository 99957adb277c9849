-- Carrying is accepted exactly if everything fits: `carry_passes`; then it answers and leaves the new list,
-- `carry_accepted`. In row numbers that list is `carried_is`, and the new count `count_moves`. Where rows keep their
-- order the list fits the table that they come to, `pairs_stay`: it does not fall, and its rows are below the count. So
-- the new list fits the new table, `carried_fits`. Assumes nothing.
use mathlib.Core.Path.{◌≡◌, refl, sym, ap, ◌∙◌}
use mathlib.Core.Logic.{◌⊎◌, inl, inr, ⊎_elim, ◌↔◌}
use mathlib.Core.Bool.{Bool, true, false, cond, not, ◌&&◌, true≢false}
use mathlib.Core.List.{List, [], ◌∷◌}
use Prim.Native.Nat.{ℕ, suc, ◌+◌, ◌-◌, ◌<◌, ◌≤◌}
use native.Mathlib.Omega.{arith}
use borrow.Author.Tests.{leb-true, leb-false, le-leb, ltb-true, ltb-false, not-false}
use lib.Dec.{ltb, leb}
use lib.IntN.{ℤ, pos, nat_abs}
use lib.ListN.{length}
use Rattle.tree.specs.Pairs.{Pair, pair, pairs_of, roles_of, rows_of}
use Rattle.tree.specs.StepRules.{PairsFit}
use Rattle.tree.specs.Carry.{carried_by, carried, old_count_ok}
use Rattle.tree.specs.Carry.{carry_if, carry_check, carry_outcome}
use Rattle.tree.specs.CarryRules.{MoveFits, CarryFits, new_row, gone_row}
use Rattle.tree.specs.Outcome.{overwritten}
use Rattle.tree.proofs.SoundLaws.{both, both_of, next_passed, given_passed, given_not}
use Rattle.tree.proofs.RoleLaws.{pair_passes}
use Rattle.tree.proofs.StepAccept.{room_passes}
use Rattle.tree.proofs.RowMoveLaws.{move_adds, move_ok_lem, new_row_lem, gone_row_lem}
use Rattle.tree.proofs.CarryLaws.{carried_in, carried_same, carried_most}
use Rattle.tree.proofs.PairColumns.{length_roles, length_rows, length_pairs, pairs_below, rows_below_lem}
use Rattle.tree.proofs.SortedLaws.{Sorted, order_at, sorted_there, sorted_back}
use Rattle.tree.specs.Refusal.{Checked, passed}
use Rattle.std.specs.Prelude.{Ok}

-- ── acceptance ──
old_count_ok_lem : (old : ℕ) → (old_count_ok old ≡ true) ↔ ((1 ≤ old) × (old ≤ 4096))
unfolding old_count_ok
old_count_ok_lem old = (
  λ e. let a = both (leb 1 old) _ e in (leb-true _ _ a.0, leb-true _ _ a.1),
  λ h. both_of (le-leb _ _ h.0) (le-leb _ _ h.1),
)

-- accepted exactly if everything fits
pub carry_passes : (role row : List ℕ) (old first : ℕ) (moved : ℤ) (outRole outRow : List ℕ)
    → (carry_check role row old first moved outRole outRow ≡ passed) ↔ CarryFits role row old first moved outRole outRow
unfolding carry_check
carry_passes role row old first moved outRole outRow = (there, back)
  where
    there : carry_check role row old first moved outRole outRow ≡ passed
        → CarryFits role row old first moved outRole outRow
    there e =
        let p = (next_passed _ _).0 e in
        let q = (next_passed _ _).0 p.1 in
        let r = (next_passed _ _).0 q.1 in
        let c = (old_count_ok_lem old).0 (not-false _ (given_passed _ _ p.0)) in
        let o = (room_passes _ outRole outRow).0 r.1 in
        record {
          some = c.0;
          few = c.1;
          pairs = (pair_passes role row old).0 q.0;
          move = (move_ok_lem old first moved).0 (not-false _ (given_passed _ _ r.0));
          roles = o.0;
          rows = o.1;
        }

    back : CarryFits role row old first moved outRole outRow
        → carry_check role row old first moved outRole outRow ≡ passed
    back h =
        (next_passed _ _).1 (
          given_not _ (ap not ((old_count_ok_lem old).1 (h.some, h.few))),
          (next_passed _ _).1 (
            (pair_passes role row old).1 h.pairs,
            (next_passed _ _).1 (
              given_not _ (ap not ((move_ok_lem old first moved).1 h.move)),
              (room_passes _ outRole outRow).1 (h.roles, h.rows),
            ),
          ),
        )

-- then the answer is the length of the new list, which stands in front of the result columns
pub carry_accepted : (role row : List ℕ) (old first : ℕ) (moved : ℤ) (outRole outRow : List ℕ)
    → CarryFits role row old first moved outRole outRow
    → carry_outcome role row old first moved outRole outRow ≡ record {
      answer = Ok (length (carried first moved (pairs_of role row)));
      role = overwritten (roles_of (carried first moved (pairs_of role row))) outRole;
      row = overwritten (rows_of (carried first moved (pairs_of role row))) outRow;
    }
unfolding carry_outcome carry_if
carry_accepted role row old first moved outRole outRow h =
    ap (λ (c : Checked). carry_if c (carried first moved (pairs_of role row)) outRole outRow)
    ((carry_passes role row old first moved outRole outRow).1 h)

-- ── a list whose rows keep their order ──
module _ (goes : ℕ → Bool) (to : ℕ → ℕ)
    (order : (v w : ℕ) → goes v ≡ false → goes w ≡ false → v ≤ w → to v ≤ to w) where
  -- a sorted list stays sorted
  sorted_carried : (ps : List Pair) → Sorted ps → Sorted (carried_by goes to ps)
  unfolding carried_by
  sorted_carried [] s = tt
  sorted_carried (p ∷ ps) s = go (goes p.row) refl (sorted_carried ps s.1)
    where
      go : (b : Bool) → goes p.row ≡ b → Sorted (carried_by goes to ps)
          → Sorted (cond b (carried_by goes to ps) (pair p.role (to p.row) ∷ carried_by goes to ps))
      go true e ih = ih
      go false e ih = (
        λ q i. let z = (carried_in goes to q ps).0 i in
            ⊎_elim (λ l. inl l)
            (λ l. inr (l.0, rw z.3 (order p.row z.0 e z.2 l.1)))
            (s.0 (pair q.role z.0) z.1),
        ih,
      )

  -- and fits the table that its rows come to
  pub pairs_stay : (role row : List ℕ) (old new : ℕ) → ((w : ℕ) → w < old → goes w ≡ false → to w < new)
      → PairsFit role row old
      → PairsFit (roles_of (carried_by goes to (pairs_of role row)))
      (rows_of (carried_by goes to (pairs_of role row))) new
  pairs_stay role row old new inside f = record {
    even = length_roles _ ∙ sym (length_rows _);
    few = omega (
      arith,
      length_roles (carried_by goes to ps),
      carried_most goes to ps,
      length_pairs role row f.even,
      f.few,
    );
    order = sorted_back (carried_by goes to ps) (sorted_carried ps (sorted_there role row
        (λ i l. sym (order_at role row i) ∙ f.order (suc i) l)));
    inside = λ i l. rows_below_lem new (carried_by goes to ps) (λ q j. let z = (carried_in goes to q ps).0 j in
        rw z.3 (inside z.0 (pairs_below old role row f.inside _ z.1) z.2)) i
        (omega (arith, length_roles (carried_by goes to ps), length_rows (carried_by goes to ps)));
  }
    where
      ps : List Pair
      ps = pairs_of role row

-- ── the new list ──
module _ (old first : ℕ) (moved : ℤ) (h : MoveFits old first moved) where
  -- the new list in row numbers
  pub carried_is : (ps : List Pair)
      → carried first moved ps ≡ carried_by (gone_row h.to first) (new_row h.to first) ps
  unfolding carried
  carried_is ps =
      carried_same _ _ _ _ ps
      (λ p i. (gone_row_lem old first moved h p.row, λ e. ap nat_abs (new_row_lem old first moved h p.row)))

  -- the new count lies as far behind the new place of the first moved row as the old one behind the old
  pub count_moves : h.new ≡ old - first + h.to
  count_moves =
      let e : pos h.new ≡ pos (old - first + h.to) =
      sym h.leaves ∙ move_adds moved first h.to old h.lands h.within in
      cc

  -- a row that stays is before the row `to` and keeps its number, or moves from the first moved row on
  stays_where : (w : ℕ) → gone_row h.to first w ≡ false
      → ((w < first) × (w < h.to) × (new_row h.to first w ≡ w))
      ⊎ ((first ≤ w) × (new_row h.to first w ≡ w - first + h.to))
  stays_where w g = go (ltb w first) refl (leb h.to w) refl g
    where
      go : (b : Bool) → ltb w first ≡ b → (c : Bool) → leb h.to w ≡ c → (c && b) ≡ false
          → ((w < first) × (w < h.to) × (cond b w (w - first + h.to) ≡ w))
          ⊎ ((first ≤ w) × (cond b w (w - first + h.to) ≡ w - first + h.to))
      go true p true q e = absurd (true≢false e)
      go true p false q e = inl (ltb-true _ _ p, leb-false _ _ q, refl)
      go false p c q e = inr (ltb-false _ _ p, refl)

  -- rows that stay keep their order
  stays_order : (v w : ℕ) → gone_row h.to first v ≡ false → gone_row h.to first w ≡ false → v ≤ w
      → new_row h.to first v ≤ new_row h.to first w
  stays_order v w a b l =
      ⊎_elim
      (λ p. ⊎_elim (λ q. omega (arith, p.2, q.2)) (λ q. omega (arith, p.1, p.2, q.1)) (stays_where w b))
      (λ p. ⊎_elim (λ q. absurd (omega (arith, p.0, q.0))) (λ q. omega (arith, p.1, q.1)) (stays_where w b))
      (stays_where v a)

  -- and are rows of the new table
  stays_inside : (w : ℕ) → w < old → gone_row h.to first w ≡ false → new_row h.to first w < h.new
  stays_inside w l a =
      ⊎_elim (λ p. omega (arith, p.0, p.1, p.2, count_moves, h.within))
      (λ p. omega (arith, p.0, p.1, count_moves)) (stays_where w a)

  -- the new list fits the new table: the next step takes it as it is
  pub carried_fits : (role row : List ℕ) → PairsFit role row old
      → PairsFit (roles_of (carried first moved (pairs_of role row)))
      (rows_of (carried first moved (pairs_of role row)))
      h.new
  carried_fits role row f =
      rw (carried_is (pairs_of role row))
      (pairs_stay (gone_row h.to first) (new_row h.to first) stays_order role row old h.new stays_inside f)
