-- The two columns of a list of pairs: they are its pairs again, `pairs_columns`; of two lists in a row, `rows_append`,
-- `roles_append`; they are as long as it is, `length_rows`, `length_roles`. The list of two columns: its length,
-- `length_pairs`, and its places, `pairs_at`. Rows below a number, `pairs_below`, `rows_below_lem`. Assumes nothing.
use mathlib.Core.Path.{◌≡◌, refl, sym, ap}
use mathlib.Core.Logic.{inl, inr}
use mathlib.Core.List.{List, [], ◌∷◌, ◌++◌}
use Prim.Native.Nat.{ℕ, zero, suc, ◌<◌}
use native.Mathlib.Omega.{arith}
use lib.ListN.{length, get_or}
use Rattle.tree.specs.Table.{at}
use Rattle.tree.specs.Pairs.{Pair, pair, pairs_of, roles_of, rows_of}
use Rattle.tree.proofs.StepLaws.{In}

-- ── columns of a list ──
pub pairs_columns : (ps : List Pair) → pairs_of (roles_of ps) (rows_of ps) ≡ ps
unfolding pairs_of roles_of rows_of
pairs_columns [] = refl
pairs_columns (p ∷ ps) = ap (λ (l : List Pair). p ∷ l) (pairs_columns ps)

pub rows_append : (xs ys : List Pair) → rows_of (xs ++ ys) ≡ rows_of xs ++ rows_of ys
unfolding rows_of
rows_append [] ys = refl
rows_append (x ∷ xs) ys = ap (λ (l : List ℕ). x.row ∷ l) (rows_append xs ys)

pub roles_append : (xs ys : List Pair) → roles_of (xs ++ ys) ≡ roles_of xs ++ roles_of ys
unfolding roles_of
roles_append [] ys = refl
roles_append (x ∷ xs) ys = ap (λ (l : List ℕ). x.role ∷ l) (roles_append xs ys)

pub length_rows : (ps : List Pair) → length (rows_of ps) ≡ length ps
unfolding rows_of
length_rows [] = refl
length_rows (p ∷ ps) = ap suc (length_rows ps)

pub length_roles : (ps : List Pair) → length (roles_of ps) ≡ length ps
unfolding roles_of
length_roles [] = refl
length_roles (p ∷ ps) = ap suc (length_roles ps)

-- ── the list of two columns ──
pub length_pairs : (role row : List ℕ) → length role ≡ length row → length (pairs_of role row) ≡ length role
unfolding pairs_of
length_pairs [] ws e = refl
length_pairs (r ∷ rs) [] e = sym e
length_pairs (r ∷ rs) (w ∷ ws) e = ap suc (length_pairs rs ws (let z : length rs ≡ length ws = omega arith in z))

pub pairs_at : (role row : List ℕ) (i : ℕ) → i < length role → i < length row
    → get_or (pairs_of role row) i (pair 0 0) ≡ pair (at role i) (at row i)
unfolding pairs_of
pairs_at [] ws i l m = absurd (omega arith)
pairs_at (r ∷ rs) [] i l m = absurd (omega arith)
pairs_at (r ∷ rs) (w ∷ ws) zero l m = refl
pairs_at (r ∷ rs) (w ∷ ws) (suc i) l m = pairs_at rs ws i (omega arith) (omega arith)

-- ── rows below a number ──
-- at every place, so in every pair
pub pairs_below : (n : ℕ) (role row : List ℕ) → ((i : ℕ) → i < length role → at row i < n)
    → (q : Pair) → In q (pairs_of role row) → q.row < n
unfolding pairs_of
pairs_below n [] ws h q i = absurd i
pairs_below n (r ∷ rs) [] h q i = absurd i
pairs_below n (r ∷ rs) (w ∷ ws) h q (inl e) =
    let z : q.row ≡ w = ap (λ (x : Pair). x.row) e in
    let y : w < n = h 0 (omega arith) in
    omega arith
pairs_below n (r ∷ rs) (w ∷ ws) h q (inr i) = pairs_below n rs ws (λ k l. h (suc k) (omega arith)) q i

-- in every pair, so at every place
pub rows_below_lem : (n : ℕ) (ps : List Pair) → ((q : Pair) → In q ps → q.row < n)
    → (i : ℕ) → i < length (rows_of ps) → at (rows_of ps) i < n
unfolding rows_of
rows_below_lem n [] h i l = absurd (omega arith)
rows_below_lem n (p ∷ ps) h zero l = h p (inl refl)
rows_below_lem n (p ∷ ps) h (suc i) l = rows_below_lem n ps (λ q j. h q (inr j)) i (omega arith)
