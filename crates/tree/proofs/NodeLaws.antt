-- Laws of the definitions of Nodes.
-- A run and what follows it: `run_in`, `run_out`, `rest_in`, `rest_out`, `run_rest`, `take_run`, `drop_run`.
-- An edit: `edited_here`, `edited_there`. Rows: `length_rows`, `rows_at`, `length_sizes`.
-- What holds of every row: `all_append`, `all_split`, `all_run`, `all_rest`, `all_rows`, `rows_all`, `all_sub`,
-- `all_edited`, `all_lift`. Levels above l: `above_run`, `above_lift`, `above_sub`.
-- Keys: `absent_sub`, `absent_edited`. Assumes nothing.
use mathlib.Core.Path.{◌≡◌, refl, sym, ap, ◌∙◌}
use mathlib.Core.Bool.{Bool, cond}
use mathlib.Core.List.{List, [], ◌∷◌, ◌++◌, map}
use Prim.Native.Nat.{ℕ, zero, suc, ◌+◌, ◌<◌, ◌≤◌}
use native.Mathlib.Nat.{le_of_suc-le-suc, not-suc-le-zero}
use native.Mathlib.Decide.{dec_lt, ℕ_discrete}
use native.Mathlib.Omega.{arith}
use borrow.Author.Tests.{lt-ltb, le-ltb, eq-eqb, ne_eqb}
use lib.ListN.{length, get_or, take, drop}
use lib.Seq.{take-append_seam, drop-append_seam}
use Rattle.tree.proofs.Nodes.{Node, rows, run, rest, sizes, lift, named, Edit, ins, del, ren, brought, sub}
use Rattle.tree.proofs.Nodes.{edited, All, Unlike, Absent, Over, Above}

-- ── a run and what follows it ──
-- a deeper row is in the run
pub run_in : (l : ℕ) (x : Node) (xs : List Node) → l < x.level → run l (x ∷ xs) ≡ x ∷ run l xs
unfolding run
run_in l x xs h = ap (λ (b : Bool). cond b (x ∷ run l xs) []) (lt-ltb _ _ h)

-- another row ends it
pub run_out : (l : ℕ) (x : Node) (xs : List Node) → x.level ≤ l → run l (x ∷ xs) ≡ []
unfolding run
run_out l x xs h = ap (λ (b : Bool). cond b (x ∷ run l xs) []) (le-ltb _ _ h)

-- a deeper row is passed
pub rest_in : (l : ℕ) (x : Node) (xs : List Node) → l < x.level → rest l (x ∷ xs) ≡ rest l xs
unfolding rest
rest_in l x xs h = ap (λ (b : Bool). cond b (rest l xs) (x ∷ xs)) (lt-ltb _ _ h)

-- what follows begins at another
pub rest_out : (l : ℕ) (x : Node) (xs : List Node) → x.level ≤ l → rest l (x ∷ xs) ≡ x ∷ xs
unfolding rest
rest_out l x xs h = ap (λ (b : Bool). cond b (rest l xs) (x ∷ xs)) (le-ltb _ _ h)

-- the two make up the list
pub run_rest : (l : ℕ) (xs : List Node) → run l xs ++ rest l xs ≡ xs
unfolding run rest
run_rest l [] = refl
run_rest l (x ∷ xs) = elim (dec_lt l x.level) [
  | yes p ↦ rw (run_in l x xs p, rest_in l x xs p) (ap (λ (z : List Node). x ∷ z) (run_rest l xs))
  | no p ↦ let q : x.level ≤ l = omega arith in rw (run_out l x xs q, rest_out l x xs q)
]

-- a run is as many rows from the front
pub take_run : (l : ℕ) (xs : List Node) → take (length (run l xs)) xs ≡ run l xs
take_run l xs = ap (take (length (run l xs))) (sym (run_rest l xs)) ∙ take-append_seam (run l xs) (rest l xs)

-- what follows is what is left without them
pub drop_run : (l : ℕ) (xs : List Node) → drop (length (run l xs)) xs ≡ rest l xs
drop_run l xs = ap (drop (length (run l xs))) (sym (run_rest l xs)) ∙ drop-append_seam (run l xs) (rest l xs)

-- ── an edit ──
-- at the named row
pub edited_here : (e : Edit) (k : ℕ) (x : Node) (xs : List Node) → x.key ≡ k
    → edited e k (x ∷ xs) ≡ sub e x (run x.level xs) ++ rest x.level xs
unfolding edited
edited_here e k x xs h =
    ap (λ (b : Bool). cond b (sub e x (run x.level xs) ++ rest x.level xs) (x ∷ edited e k xs)) (eq-eqb _ _ h)

-- at an earlier row
pub edited_there : (e : Edit) (k : ℕ) (x : Node) (xs : List Node) → Unlike k x
    → edited e k (x ∷ xs) ≡ x ∷ edited e k xs
unfolding edited
edited_there e k x xs h =
    ap (λ (b : Bool). cond b (sub e x (run x.level xs) ++ rest x.level xs) (x ∷ edited e k xs)) (ne_eqb _ _ h)

-- ── rows ──
-- n values are n nodes
pub length_rows : (f : ℕ → Node) (n : ℕ) → length (rows f n) ≡ n
unfolding rows
length_rows f zero = refl
length_rows f (suc n) = ap suc (length_rows (λ i. f (suc i)) n)

-- the nodes are these values
pub rows_at : (f : ℕ → Node) (n i : ℕ) (z : Node) → i < n → get_or (rows f n) i z ≡ f i
unfolding rows
rows_at f zero i z l = absurd (not-suc-le-zero l)
rows_at f (suc n) zero z l = refl
rows_at f (suc n) (suc i) z l = rows_at (λ i. f (suc i)) n i z (le_of_suc-le-suc l)

-- each node has a size
pub length_sizes : (ns : List Node) → length (sizes ns) ≡ length ns
unfolding sizes
length_sizes [] = refl
length_sizes (x ∷ ns) = ap suc (length_sizes ns)

-- ── what holds of every row ──
module _ (P : Node → Type 0) where
  -- of two lists, of them together
  pub all_append : (a b : List Node) → All P a → All P b → All P (a ++ b)
  all_append [] b h g = g
  all_append (x ∷ a) b h g = (h.0, all_append a b h.1 g)

  -- and back
  pub all_split : (a b : List Node) → All P (a ++ b) → All P a × All P b
  all_split [] b h = (tt, h)
  all_split (x ∷ a) b h = let s = all_split a b h.1 in ((h.0, s.0), s.1)

  -- of a list, of a run of it
  pub all_run : (l : ℕ) (xs : List Node) → All P xs → All P (run l xs)
  all_run l xs h = (all_split (run l xs) (rest l xs) (rw run_rest h)).0

  -- of a list, of what follows a run
  pub all_rest : (l : ℕ) (xs : List Node) → All P xs → All P (rest l xs)
  all_rest l xs h = (all_split (run l xs) (rest l xs) (rw run_rest h)).1

  -- of each of n values
  pub all_rows : (f : ℕ → Node) (n : ℕ) → ((i : ℕ) → i < n → P (f i)) → All P (rows f n)
  unfolding rows
  all_rows f zero h = tt
  all_rows f (suc n) h = (h zero (omega arith), all_rows (λ i. f (suc i)) n (λ i l. h (suc i) (omega arith)))

  -- and back
  pub rows_all : (f : ℕ → Node) (n i : ℕ) → i < n → All P (rows f n) → P (f i)
  unfolding rows
  rows_all f zero i l a = absurd (not-suc-le-zero l)
  rows_all f (suc n) zero l a = a.0
  rows_all f (suc n) (suc i) l a = rows_all (λ i. f (suc i)) n i (le_of_suc-le-suc l) a.1

  -- of a row, its descendants and the rows brought, of what takes their place
  all_sub : (e : Edit) (x : Node) (d : List Node) → P x → ((m : ℕ) → P (named m x)) → All P d
      → All P (map (lift (x.level + 1)) (brought e)) → All P (sub e x d)
  unfolding sub brought
  all_sub (ins p) x d h n a b = (h, all_append d _ a b)
  all_sub del x d h n a b = tt
  all_sub (ren m) x d h n a b = (n m, a)

  -- of a list, of the edited list
  pub all_edited : (e : Edit) (k : ℕ) → ((x : Node) (d : List Node) → P x → All P d → All P (sub e x d))
      → (ns : List Node) → All P ns → All P (edited e k ns)
  unfolding edited
  all_edited e k s [] a = tt
  all_edited e k s (x ∷ xs) a = elim (ℕ_discrete x.key k) [
    | yes h ↦ rw (edited_here e k x xs h)
        (all_append (sub e x (run x.level xs)) _ (s x _ a.0 (all_run x.level xs a.1))
        (all_rest x.level xs a.1))
    | no h ↦ rw (edited_there e k x xs h) (a.0, all_edited e k s xs a.1)
  ]

-- of nodes, of the same nodes deeper
pub all_lift : (P Q : Node → Type 0) (l : ℕ) → ((x : Node) → P x → Q (lift l x)) → (a : List Node) → All P a
    → All Q (map (lift l) a)
all_lift P Q l h [] a = tt
all_lift P Q l h (x ∷ xs) a = (h x a.0, all_lift P Q l h xs a.1)

-- ── levels above l ──
-- a run's
pub above_run : (l m : ℕ) (xs : List Node) → l ≤ m → Above l (run m xs)
unfolding run
above_run l m [] h = tt
above_run l m (x ∷ xs) h = elim (dec_lt m x.level) [
  | yes p ↦ rw (run_in m x xs p) (omega arith, above_run l m xs h)
  | no p ↦ let q : x.level ≤ m = omega arith in rw (run_out m x xs q) tt
]

-- a piece's under a row of level m
pub above_lift : (l m : ℕ) (a : List Node) → l ≤ m → Above l (map (lift (m + 1)) a)
unfolding lift
above_lift l m [] h = tt
above_lift l m (x ∷ a) h = (omega arith, above_lift l m a h)

-- an edited subtree's
pub above_sub : (l : ℕ) (e : Edit) (x : Node) (d : List Node) → l < x.level → Above l d → Above l (sub e x d)
unfolding named
above_sub l e x d h a = all_sub (Over l) e x d h (λ m. h) a (above_lift l x.level (brought e) (omega arith))

-- ── keys ──
-- a key that is neither in a subtree nor brought is not in the edited subtree
pub absent_sub : (k : ℕ) (e : Edit) (x : Node) (d : List Node) → Unlike k x → Absent k d → Absent k (brought e)
    → Absent k (sub e x d)
unfolding named lift
absent_sub k e x d h a b =
    all_sub (Unlike k) e x d h (λ m. h) a (all_lift (Unlike k) (Unlike k) (x.level + 1) (λ y g. g) (brought e) b)

-- nor, where it is not in the list, in the edited list
pub absent_edited : (e : Edit) (k j : ℕ) (ns : List Node) → Absent k ns → Absent k (brought e)
    → Absent k (edited e j ns)
absent_edited e k j ns a b = all_edited (Unlike k) e j (λ x d h c. absent_sub k e x d h c b) ns a
