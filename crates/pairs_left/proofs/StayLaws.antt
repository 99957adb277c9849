-- Counting the pairs that stay: at the front none, `left_none`, one row more, `left_next`, all of them, `left_all`.
-- Where the move does not lead towards the front all stay, `left_whole`, and where all do, each does, `each_stays`.
-- They are as many as the carried list has, `left_carried`. Where the move leads to the row `to`, a row and the list
-- in row numbers are `row_to` and `carried_to`, and the list's length is `left_is`. Assumes nothing.
use mathlib.Core.Path.{◌≡◌, refl, sym, ap, ◌∙◌}
use mathlib.Core.Bool.{Bool, true, false, cond}
use mathlib.Core.List.{List, [], ◌∷◌, ◌++◌}
use Prim.Native.Nat.{ℕ, zero, suc, ◌+◌, ◌<◌, ◌≤◌}
use native.Mathlib.Numerals.{add-one}
use native.Mathlib.Omega.{arith}
use native.Mathlib.Decide.{dec_lt}
use lib.IntN.{ℤ, pos, ◌+ℤ◌}
use lib.ListN.{length, take}
use lib.Seq.{take-suc, take_all}
use Rattle.tree.specs.Table.{at}
use Rattle.tree.specs.Pairs.{Pair, pair, pairs_of}
use Rattle.tree.specs.Carry.{row_after, carried_by, carried, move_ok}
use Rattle.tree.specs.CarryRules.{MoveFits, new_row, gone_row}
use Rattle.tree.proofs.RowMoveLaws.{move_ok_lem, new_row_lem}
use Rattle.tree.proofs.CarryAccept.{carried_is}
use Rattle.moves.proofs.GoneRowLaws.{before_it, behind_it}
use Rattle.pairs_left.specs.Left.{left_of}

module _ (to first : ℕ) where
  -- of no rows none stay
  pub left_none : (row : List ℕ) → left_of to first (take 0 row) ≡ 0
  unfolding left_of
  left_none row = refl

  -- of two lists in a row
  left_append : (xs ys : List ℕ) → left_of to first (xs ++ ys) ≡ left_of to first xs + left_of to first ys
  unfolding left_of
  left_append [] ys = omega arith
  left_append (x ∷ xs) ys = omega (arith, left_append xs ys)

  -- one row more
  pub left_next : (row : List ℕ) (i : ℕ) → i < length row
      → left_of to first (take (i + 1) row) ≡ left_of to first (take i row) + cond (gone_row to first (at row i)) 0 1
  unfolding left_of
  left_next row i l =
      ap (λ (n : ℕ). left_of to first (take n row)) (add-one i)
      ∙ ap (left_of to first) (take-suc row i 0 l)
      ∙ left_append (take i row) (at row i ∷ [])
      ∙ (let z : left_of to first (take i row) + (cond (gone_row to first (at row i)) 0 1 + 0)
      ≡ left_of to first (take i row) + cond (gone_row to first (at row i)) 0 1 = omega arith in z)

  -- all rows
  pub left_all : (row : List ℕ) (i : ℕ) → length row ≤ i → left_of to first (take i row) ≡ left_of to first row
  left_all row i l = ap (left_of to first) (take_all i row l)

  -- where the row `to` is not before the first moved row, no row goes
  none_goes : first ≤ to → (w : ℕ) → gone_row to first w ≡ false
  none_goes h w = elim (dec_lt w to) [ yes l ↦ before_it to first w l | no l ↦ behind_it to first w (omega arith) ]

  -- so all stay
  pub left_whole : first ≤ to → (row : List ℕ) → length row ≡ left_of to first row
  unfolding left_of
  left_whole h [] = refl
  left_whole h (w ∷ ws) = rw (none_goes h w) (omega (arith, left_whole h ws))

  -- no more stay than there are
  left_most : (row : List ℕ) → left_of to first row ≤ length row
  unfolding left_of
  left_most [] = omega arith
  left_most (w ∷ ws) = go (gone_row to first w) (left_most ws)
    where
      go : (b : Bool) → left_of to first ws ≤ length ws → cond b 0 1 + left_of to first ws ≤ suc (length ws)
      go true h = omega arith
      go false h = omega arith

  -- where all stay, each does
  pub each_stays : (row : List ℕ) → left_of to first row ≡ length row → (i : ℕ) → i < length row
      → gone_row to first (at row i) ≡ false
  unfolding left_of
  each_stays [] e i l = absurd (omega arith)
  each_stays (w ∷ ws) e i l = go (gone_row to first w) refl e i l (each_stays ws)
    where
      go : (b : Bool) → gone_row to first w ≡ b → cond b 0 1 + left_of to first ws ≡ suc (length ws)
          → (i : ℕ) → i < suc (length ws)
          → (left_of to first ws ≡ length ws → (i : ℕ) → i < length ws → gone_row to first (at ws i) ≡ false)
          → gone_row to first (at (w ∷ ws) i) ≡ false
      go true c e i l ih = absurd (omega (arith, left_most ws))
      go false c e zero l ih = c
      go false c e (suc i) l ih = ih (let z : left_of to first ws ≡ length ws = omega arith in z) i (omega arith)

  -- as many as the carried list has
  pub left_carried : (role row : List ℕ) → length role ≡ length row
      → length (carried_by (gone_row to first) (new_row to first) (pairs_of role row)) ≡ left_of to first row
  unfolding left_of carried_by pairs_of
  left_carried [] [] e = refl
  left_carried [] (w ∷ ws) e = absurd (omega arith)
  left_carried (r ∷ rs) [] e = absurd (omega arith)
  left_carried (r ∷ rs) (w ∷ ws) e =
      go (gone_row to first w) (left_carried rs ws (let z : length rs ≡ length ws = omega arith in z))
    where
      go : (b : Bool)
          → length (carried_by (gone_row to first) (new_row to first) (pairs_of rs ws)) ≡ left_of to first ws
          → length (cond b (carried_by (gone_row to first) (new_row to first) (pairs_of rs ws))
          (pair r (new_row to first w) ∷ carried_by (gone_row to first) (new_row to first) (pairs_of rs ws)))
          ≡ cond b 0 1 + left_of to first ws
      go true h = omega arith
      go false h = omega arith

-- ── the carried list, where the move takes the first moved row to the row `to` ──
module _ (old first : ℕ) (moved : ℤ) (to : ℕ) (m : move_ok old first moved ≡ true) (l : pos first +ℤ moved ≡ pos to)
  where
    -- the row `to` is the one that the move leads to
    fits : MoveFits old first moved
    fits = (move_ok_lem old first moved).0 m

    same_to : fits.to ≡ to
    same_to = let p : pos fits.to ≡ pos to = sym fits.lands ∙ l in cc

    -- where a row goes
    pub row_to : (w : ℕ) → row_after first moved w ≡ pos (new_row to first w)
    row_to w = new_row_lem old first moved fits w ∙ ap (λ (k : ℕ). pos (new_row k first w)) same_to

    -- the list
    pub carried_to : (ps : List Pair) → carried first moved ps ≡ carried_by (gone_row to first) (new_row to first) ps
    carried_to ps =
        carried_is old first moved fits ps ∙ ap (λ (k : ℕ). carried_by (gone_row k first) (new_row k first) ps) same_to

    -- and its length
    pub left_is : (role row : List ℕ) → length role ≡ length row
        → left_of to first row ≡ length (carried first moved (pairs_of role row))
    left_is role row e = sym (left_carried to first role row e) ∙ ap length (sym (carried_to (pairs_of role row)))
