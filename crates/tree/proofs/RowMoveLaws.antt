-- A signed move in row numbers: what it does to one row it does to every later one, `move_adds`. Refusal 17 does not
-- apply exactly if the move fits, `move_ok_lem`. Then the row after the edit is `new_row`, `new_row_lem`, and the
-- rows from where the first moved row stands afterwards up to where it stood are the deleted ones, `gone_row_lem`.
-- Assumes nothing.
use mathlib.Core.Path.{◌≡◌, refl, ap, subst, ◌∙◌}
use mathlib.Core.Logic.{◌↔◌}
use mathlib.Core.Bool.{Bool, true, false, cond, ◌&&◌, false≢true}
use Prim.Native.Nat.{ℕ, ◌+◌, ◌-◌, ◌≤◌}
use native.Mathlib.Omega.{arith}
use borrow.Author.Tests.{leb-true, le-leb, ltb-false}
use lib.Dec.{ltb, leb}
use lib.IntN.{ℤ, pos, negsuc, ◌+ℤ◌, +ℤ_assoc}
use lib.Signed.{le_z}
use Rattle.tree.specs.Carry.{row_after, was_deleted, move_ok}
use Rattle.tree.specs.CarryRules.{MoveFits, new_row, gone_row}
use Rattle.tree.proofs.SoundLaws.{both, both_of}

-- where a move takes row a to row b, it takes each later row as far
pub move_adds : (moved : ℤ) (a b w : ℕ) → pos a +ℤ moved ≡ pos b → a ≤ w → pos w +ℤ moved ≡ pos (w - a + b)
move_adds moved a b w e l =
    let z : w ≡ w - a + a = omega arith in
    ap (λ (n : ℕ). pos n +ℤ moved) z ∙ +ℤ_assoc (pos (w - a)) (pos a) moved ∙ ap (λ (m : ℤ). pos (w - a) +ℤ m) e

-- a signed number that is at least m is a row number
at_least : (m : ℕ) (z : ℤ) → le_z (pos m) z ≡ true → (n : ℕ) × (z ≡ pos n) × (m ≤ n)
at_least m (pos n) e = (n, refl, leb-true m n e)
at_least m (negsuc n) e = absurd (false≢true e)

-- the tests of refusal 17 pass exactly if the move fits
pub move_ok_lem : (old first : ℕ) (moved : ℤ) → (move_ok old first moved ≡ true) ↔ MoveFits old first moved
unfolding move_ok
move_ok_lem old first moved = (there, back)
  where
    there : move_ok old first moved ≡ true → MoveFits old first moved
    there e =
        let a = both (leb 1 first && leb first old && le_z (pos 0) (pos first +ℤ moved)
        && le_z (pos 1) (pos old +ℤ moved)) _ e in
        let b = both (leb 1 first && leb first old && le_z (pos 0) (pos first +ℤ moved)) _ a.0 in
        let c = both (leb 1 first && leb first old) _ b.0 in
        let d = both (leb 1 first) _ c.0 in
        let (to, lands, _) = at_least 0 (pos first +ℤ moved) c.1 in
        let (new, leaves, rows) = at_least 1 (pos old +ℤ moved) b.1 in
        record {
          to = to;
          new = new;
          some = leb-true _ _ d.0;
          within = leb-true _ _ d.1;
          lands = lands;
          leaves = leaves;
          rows = rows;
          few = leb-true new 4096 (subst (λ (z : ℤ). le_z z (pos 4096) ≡ true) leaves a.1);
        }

    back : MoveFits old first moved → move_ok old first moved ≡ true
    back h =
        both_of
        (both_of
        (both_of
        (both_of (le-leb _ _ h.some) (le-leb _ _ h.within))
        (rw h.lands (le-leb 0 h.to (omega arith))))
        (rw h.leaves (le-leb _ _ h.rows)))
        (rw h.leaves (le-leb _ _ h.few))

module _ (old first : ℕ) (moved : ℤ) (h : MoveFits old first moved) (w : ℕ) where
  -- the row after the edit is a row number
  pub new_row_lem : row_after first moved w ≡ pos (new_row h.to first w)
  new_row_lem = go (ltb w first) refl
    where
      go : (b : Bool) → ltb w first ≡ b
          → cond b (pos w) (pos w +ℤ moved) ≡ pos (cond b w (w - first + h.to))
      go true e = refl
      go false e = move_adds moved first h.to w h.lands (ltb-false w first e)

  -- the deleted rows are those in between
  pub gone_row_lem : was_deleted first moved w ≡ gone_row h.to first w
  unfolding was_deleted
  gone_row_lem = rw h.lands
