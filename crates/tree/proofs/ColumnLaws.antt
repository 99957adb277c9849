-- The columns of an edited table: RULES 01, "Finding and editing by key". Where a row stands afterwards:
-- `opened_stays`, `opened_moves`, `closed_stays`, `closed_moves`; the rows that came in, `opened_new`, the freed ones,
-- `closed_freed`, and the spare ones, `opened_spare`, `closed_spare`; what a row holds where sizes change:
-- `changed_at`, `changed_not`, `changed_take`, `changed_none`, `changed_after`; by tests that agree, `changed_ext`; at
-- one row more, before the others or after them, `changed_set`, `set_changed`. Rows in use and what follows them:
-- `opened_is`, `closed_is`. No column changes its length: `length_opened`, `length_closed`, `length_changed`. The part
-- of a column from a row on, lent and back: `tail_mid`, `tail_put`. Assumes nothing.
use mathlib.Core.Path.{◌≡◌, refl, sym, ap, ap₂, ◌∙◌}
use mathlib.Core.Bool.{Bool, false, cond, ◌||◌}
use mathlib.Core.List.{List, [], ◌∷◌, ◌++◌, append_assoc, append-nil}
use Prim.Native.Nat.{ℕ, zero, suc, ◌+◌, ◌-◌, ◌<◌, ◌≤◌}
use native.Mathlib.Nat.{le_of_suc-le-suc, not-suc-le-zero}
use native.Mathlib.Omega.{arith}
use borrow.Author.Tests.{eqb-true, eq-eqb, ne_eqb}
use lib.Dec.{eqb}
use lib.ListN.{length, take, drop, replicate, set, length-append, length-take, length-drop, length-replicate}
use lib.ListN.{get_or-append, get_or-replicate, drop_of_length-le}
use lib.Seq.{take-take, take-add, take_all, drop_at, length-take-le, get_or-take, get_or-drop, get_or-append-add}
use borrow.Rule.Slice.PartMut.{mid_of, put_mid}
use Rattle.tree.specs.Table.{at}
use Rattle.tree.specs.Edit.{opened, closed, changed}
use Rattle.tree.proofs.AxisLaws.{same_test}

-- what stands at n in two lists, one behind the other, where n is past the first
at_past : (a b : List ℕ) (n i : ℕ) → length a + i ≡ n → at (a ++ b) n ≡ at b i
at_past a b n i e = ap (at (a ++ b)) (sym e) ∙ get_or-append-add a b i 0

-- what is left of a list after n, read
at_rest : (n : ℕ) (xs : List ℕ) (i : ℕ) → n ≤ i → at (drop n xs) (i - n) ≡ at xs i
at_rest n xs i h = get_or-drop n xs (i - n) 0 ∙ ap (at xs) (let z : n + (i - n) ≡ i = omega arith in z)

-- a part from g to n of a list of at least n, read
at_part : (g n : ℕ) (xs ys : List ℕ) (i : ℕ) → g ≤ i → i < n → n ≤ length xs
    → at (take (n - g) (drop g xs) ++ ys) (i - g) ≡ at xs i
at_part g n xs ys i h l m =
    let s : i - g < length (take (n - g) (drop g xs)) = simp (length-take, length-drop) (omega arith) in
    let q : i - g < n - g = omega arith in
    get_or-append (take (n - g) (drop g xs)) ys 0 (i - g) s
    ∙ get_or-take (n - g) (drop g xs) (i - g) 0 q ∙ at_rest g xs i h

-- the same part is what is left of the first n
drop_take : (g n : ℕ) (xs : List ℕ) → g ≤ n → n ≤ length xs → take (n - g) (drop g xs) ≡ drop g (take n xs)
drop_take g n xs h l =
    sym (drop_at (take g xs) (take (n - g) (drop g xs)) g (length-take-le g xs (omega arith)))
    ∙ ap (drop g) (sym (take-add g (n - g) xs))
    ∙ ap (λ (m : ℕ). drop g (take m xs)) (let z : g + (n - g) ≡ n = omega arith in z)

-- ── opened ──
-- rows before the gap stay
pub opened_stays : (g n by : ℕ) (piece xs : List ℕ) (i : ℕ) → i < g → g ≤ length xs
    → at (opened g n by piece xs) i ≡ at xs i
unfolding opened
opened_stays g n by piece xs i h l =
    get_or-append (take g xs) _ 0 i (rw (length-take-le g xs l) h) ∙ get_or-take g xs i 0 h

-- rows from the gap on move down by as many rows as came in
pub opened_moves : (g n by : ℕ) (piece xs : List ℕ) (i : ℕ) → g ≤ i → i < n → n ≤ length xs → by ≤ length piece
    → at (opened g n by piece xs) (i + by) ≡ at xs i
unfolding opened
opened_moves g n by piece xs i h l m p =
    at_past (take g xs) _ (i + by) (by + (i - g)) (omega (arith, length-take-le g xs (omega arith)))
    ∙ at_past (take by piece) _ (by + (i - g)) (i - g) (omega (arith, length-take-le by piece p))
    ∙ at_part g n xs (drop (n + by) xs) i h l m

-- the piece's rows stand from the gap on
pub opened_new : (g n by : ℕ) (piece xs : List ℕ) (j : ℕ) → j < by → g ≤ length xs → by ≤ length piece
    → at (opened g n by piece xs) (g + j) ≡ at piece j
unfolding opened
opened_new g n by piece xs j h l p =
    at_past (take g xs) _ (g + j) j (omega (arith, length-take-le g xs l))
    ∙ get_or-append (take by piece) _ 0 j (rw (length-take-le by piece p) h) ∙ get_or-take by piece j 0 h

-- the rows in use, and the spare ones
pub opened_is : (g n by : ℕ) (piece xs : List ℕ) → g ≤ n → n ≤ length xs
    → opened g n by piece xs ≡ (take g (take n xs) ++ (take by piece ++ drop g (take n xs))) ++ drop (n + by) xs
unfolding opened
opened_is g n by piece xs h l =
    ap₂ (λ (u v : List ℕ). u ++ (take by piece ++ (v ++ drop (n + by) xs))) (sym (take-take g n xs h))
    (drop_take g n xs h l)
    ∙ ap (λ (z : List ℕ). take g (take n xs) ++ z)
    (sym (append_assoc (take by piece) (drop g (take n xs)) (drop (n + by) xs)))
    ∙ sym (append_assoc (take g (take n xs)) (take by piece ++ drop g (take n xs)) (drop (n + by) xs))

-- rows that stay spare hold what they held
pub opened_spare : (g n by : ℕ) (piece xs : List ℕ) (i : ℕ) → g ≤ n → n ≤ length xs → by ≤ length piece → n + by ≤ i
    → at (opened g n by piece xs) i ≡ at xs i
opened_spare g n by piece xs i h l p m =
    ap (λ (z : List ℕ). at z i) (opened_is g n by piece xs h l)
    ∙ at_past (take g (take n xs) ++ (take by piece ++ drop g (take n xs))) (drop (n + by) xs) i (i - (n + by))
    (simp (length-append, length-take, length-drop) (omega arith))
    ∙ at_rest (n + by) xs i m

-- the length stays
pub length_opened : (g n by : ℕ) (piece xs : List ℕ) → g ≤ n → by ≤ length piece → n + by ≤ length xs
    → length (opened g n by piece xs) ≡ length xs
unfolding opened
length_opened g n by piece xs a b c = simp (length-append, length-take, length-drop) (omega arith)

-- ── closed ──
-- rows before those that went stay
pub closed_stays : (r n by : ℕ) (xs : List ℕ) (i : ℕ) → i < r → r ≤ length xs → at (closed r n by xs) i ≡ at xs i
unfolding closed
closed_stays r n by xs i h l =
    get_or-append (take r xs) _ 0 i (rw (length-take-le r xs l) h) ∙ get_or-take r xs i 0 h

-- later rows move up by as many rows as went
pub closed_moves : (r n by : ℕ) (xs : List ℕ) (i : ℕ) → r + by ≤ i → i < n → n ≤ length xs
    → at (closed r n by xs) (i - by) ≡ at xs i
unfolding closed
closed_moves r n by xs i h l m =
    at_past (take r xs) _ (i - by) (i - (r + by)) (omega (arith, length-take-le r xs (omega arith)))
    ∙ at_part (r + by) n xs (replicate by 0 ++ drop n xs) i h l m

-- the rows in use, then the freed and the spare ones
pub closed_is : (r n by : ℕ) (xs : List ℕ) → r + by ≤ n → n ≤ length xs
    → closed r n by xs ≡ (take r (take n xs) ++ drop (r + by) (take n xs)) ++ (replicate by 0 ++ drop n xs)
unfolding closed
closed_is r n by xs h l =
    ap₂ (λ (u v : List ℕ). u ++ (v ++ (replicate by 0 ++ drop n xs))) (sym (take-take r n xs (omega arith)))
    (drop_take (r + by) n xs h l)
    ∙ sym (append_assoc (take r (take n xs)) (drop (r + by) (take n xs)) (replicate by 0 ++ drop n xs))

module _ (r n by : ℕ) (xs : List ℕ) (h : r + by ≤ n) (l : n ≤ length xs) where
  -- what follows the rows in use
  closed_past : (i : ℕ) → n - by ≤ i → at (closed r n by xs) i ≡ at (replicate by 0 ++ drop n xs) (i - (n - by))
  closed_past i m =
      ap (λ (z : List ℕ). at z i) (closed_is r n by xs h l)
      ∙ at_past (take r (take n xs) ++ drop (r + by) (take n xs)) (replicate by 0 ++ drop n xs) i (i - (n - by))
      (simp (length-append, length-take, length-drop) (omega arith))

  -- the freed rows are zero
  pub closed_freed : (i : ℕ) → n - by ≤ i → i < n → at (closed r n by xs) i ≡ 0
  closed_freed i m q =
      let z : i - (n - by) < by = omega arith in
      closed_past i m ∙ get_or-append (replicate by 0) (drop n xs) 0 (i - (n - by)) (rw length-replicate z)
      ∙ get_or-replicate by (i - (n - by)) 0 0 z

  -- rows that were spare hold what they held
  pub closed_spare : (i : ℕ) → n ≤ i → at (closed r n by xs) i ≡ at xs i
  closed_spare i m =
      closed_past i (omega arith)
      ∙ at_past (replicate by 0) (drop n xs) (i - (n - by)) (i - n)
      (rw length-replicate (omega arith))
      ∙ at_rest n xs i m

-- the length stays
pub length_closed : (r n by : ℕ) (xs : List ℕ) → r + by ≤ n → n ≤ length xs → length (closed r n by xs) ≡ length xs
unfolding closed
length_closed r n by xs a c = simp (length-append, length-take, length-drop, length-replicate) (omega arith)

-- ── changed ──
-- g is done at the rows that pass, and no others
pub changed_at : (f : ℕ → Bool) (g : ℕ → ℕ) (xs : List ℕ) (i : ℕ) → i < length xs
    → at (changed f g xs) i ≡ cond (f i) (g (at xs i)) (at xs i)
unfolding changed
changed_at f g [] i l = absurd (not-suc-le-zero l)
changed_at f g (x ∷ xs) zero l = refl
changed_at f g (x ∷ xs) (suc i) l = changed_at (λ i. f (suc i)) g xs i (le_of_suc-le-suc l)

-- nothing changes at a row that does not pass, spare rows too
pub changed_not : (f : ℕ → Bool) (g : ℕ → ℕ) (xs : List ℕ) (i : ℕ) → f i ≡ false → at (changed f g xs) i ≡ at xs i
unfolding changed
changed_not f g [] i e = refl
changed_not f g (x ∷ xs) zero e = ap (λ (b : Bool). cond b (g x) x) e
changed_not f g (x ∷ xs) (suc i) e = changed_not (λ i. f (suc i)) g xs i e

-- to the first n rows
pub changed_take : (f : ℕ → Bool) (g : ℕ → ℕ) (n : ℕ) (xs : List ℕ) → take n (changed f g xs) ≡ changed f g (take n xs)
unfolding changed
changed_take f g zero xs = refl
changed_take f g (suc n) [] = refl
changed_take f g (suc n) (x ∷ xs) =
    ap (λ (z : List ℕ). cond (f zero) (g x) x ∷ z) (changed_take (λ i. f (suc i)) g n xs)

-- where no row passes, nothing changes
pub changed_none : (f : ℕ → Bool) (g : ℕ → ℕ) (xs : List ℕ) → ((i : ℕ) → f i ≡ false) → changed f g xs ≡ xs
unfolding changed
changed_none f g [] h = refl
changed_none f g (x ∷ xs) h =
    ap₂ (λ (b : Bool) (z : List ℕ). cond b (g x) x ∷ z) (h zero)
    (changed_none (λ i. f (suc i)) g xs (λ i. h (suc i)))

-- where no row from n on passes, nothing changes there
pub changed_after : (f : ℕ → Bool) (g : ℕ → ℕ) (n : ℕ) (xs : List ℕ) → ((i : ℕ) → n ≤ i → f i ≡ false)
    → drop n (changed f g xs) ≡ drop n xs
unfolding changed
changed_after f g zero xs h = changed_none f g xs (λ i. h i (omega arith))
changed_after f g (suc n) [] h = refl
changed_after f g (suc n) (x ∷ xs) h = changed_after (λ i. f (suc i)) g n xs (λ i l. h (suc i) (omega arith))

-- two tests that agree, and two ways of changing that do, change the same
pub changed_ext : (f h : ℕ → Bool) (g k : ℕ → ℕ) (xs : List ℕ) → ((i : ℕ) → f i ≡ h i) → ((x : ℕ) → g x ≡ k x)
    → changed f g xs ≡ changed h k xs
unfolding changed
changed_ext f h g k [] e d = refl
changed_ext f h g k (x ∷ xs) e d =
    ap₂ (λ (y : ℕ) (z : List ℕ). y ∷ z) (ap₂ (λ (b : Bool) (y : ℕ). cond b y x) (e zero) (d x))
    (changed_ext (λ i. f (suc i)) (λ i. h (suc i)) g k xs (λ i. e (suc i)) d)

-- a test for row a, with the column's first row taken off
first_off : (f : ℕ → Bool) (i : ℕ) → (eqb (suc i) zero || f i) ≡ f i
first_off f i = ap (λ (b : Bool). b || f i) (ne_eqb (suc i) zero (λ e. omega arith))

later_off : (f : ℕ → Bool) (a i : ℕ) → (eqb (suc i) (suc a) || f i) ≡ (eqb i a || f i)
later_off f a i = ap (λ (b : Bool). b || f i) (same_test _ _
    (λ e. let z : suc i ≡ suc a = eqb-true (suc i) (suc a) e in eq-eqb i a (omega arith))
    (λ e. eq-eqb (suc i) (suc a) (ap suc (eqb-true i a e))))

-- row a changed first, then the rows that pass
pub changed_set : (f : ℕ → Bool) (g : ℕ → ℕ) (xs : List ℕ) (a : ℕ) → f a ≡ false
    → changed f g (set xs a (g (at xs a))) ≡ changed (λ i. eqb i a || f i) g xs
unfolding changed
changed_set f g [] a e = refl
changed_set f g (x ∷ xs) zero e =
    ap₂ (λ (y : ℕ) (z : List ℕ). y ∷ z)
    (ap (λ (b : Bool). cond b (g (g x)) (g x)) e
    ∙ sym (ap (λ (b : Bool). cond (b || f zero) (g x) x) (eq-eqb zero zero refl)))
    (changed_ext _ _ g g xs (λ i. sym (first_off (λ j. f (suc j)) i)) (λ z. refl))
changed_set f g (x ∷ xs) (suc a) e =
    ap₂ (λ (y : ℕ) (z : List ℕ). y ∷ z)
    (sym (ap (λ (b : Bool). cond (b || f zero) (g x) x) (ne_eqb zero (suc a) (λ z. omega arith))))
    (changed_set (λ i. f (suc i)) g xs a e
    ∙ changed_ext _ _ g g xs (λ i. sym (later_off (λ j. f (suc j)) a i)) (λ z. refl))

-- the rows that pass changed first, then row a
set_last : (f : ℕ → Bool) (g : ℕ → ℕ) (xs : List ℕ) (a : ℕ) → f a ≡ false
    → set (changed f g xs) a (g (at xs a)) ≡ changed f g (set xs a (g (at xs a)))
unfolding changed
set_last f g [] a e = refl
set_last f g (x ∷ xs) zero e =
    ap (λ (b : Bool). cond b (g (g x)) (g x) ∷ changed (λ i. f (suc i)) g xs) (sym e)
set_last f g (x ∷ xs) (suc a) e =
    ap (λ (z : List ℕ). cond (f zero) (g x) x ∷ z) (set_last (λ i. f (suc i)) g xs a e)

pub set_changed : (f : ℕ → Bool) (g : ℕ → ℕ) (xs : List ℕ) (a : ℕ) → f a ≡ false
    → set (changed f g xs) a (g (at (changed f g xs) a)) ≡ changed (λ i. eqb i a || f i) g xs
set_changed f g xs a e =
    ap (λ (z : ℕ). set (changed f g xs) a (g z)) (changed_not f g xs a e) ∙ set_last f g xs a e
    ∙ changed_set f g xs a e

-- the length stays
pub length_changed : (f : ℕ → Bool) (g : ℕ → ℕ) (xs : List ℕ) → length (changed f g xs) ≡ length xs
unfolding changed
length_changed f g [] = refl
length_changed f g (x ∷ xs) = ap suc (length_changed (λ i. f (suc i)) g xs)

-- ── the part of a column from a on, lent and back ──
-- what is lent
pub tail_mid : (a : ℕ) (xs : List ℕ) → mid_of a (length xs - a) xs ≡ drop a xs
tail_mid a xs = take_all (length xs - a) (drop a xs) (simp length-drop (omega arith))

-- the column once it is back
pub tail_put : (a : ℕ) (xs ys : List ℕ) → put_mid a (length xs - a) xs ys ≡ take a xs ++ ys
tail_put a xs ys =
    ap (λ (z : List ℕ). take a xs ++ (ys ++ z))
    (drop_of_length-le (drop a xs) {i = length xs - a} (simp length-drop (omega arith)))
    ∙ ap (λ (z : List ℕ). take a xs ++ z) (append-nil ys)
