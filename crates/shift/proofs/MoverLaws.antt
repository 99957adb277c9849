-- What the movers make, over lists. Rows moved within a column: `moved_down`, `moved_up`. Writing the raised rows of
-- a piece, or zeros: `put_start`, `put_turn`, `put_end`, `raised_turn`, `clear_turn`, `clear_end`. What they make of
-- a part and of a column: `open_part_lem`, `open_column_lem`, `clear_column_lem`, `pulled_cleared`. Assumes nothing.
use mathlib.Core.Path.{◌≡◌, refl, sym, ap, ap₂, ◌∙◌, subst}
use mathlib.Core.List.{List, [], ◌∷◌, ◌++◌, map, append_assoc}
use Prim.Native.Nat.{ℕ, zero, suc, ◌+◌, ◌-◌, ◌≤◌, ◌<◌}
use native.Mathlib.Nat.{zero-add, not-suc-le-zero, le_of_suc-le-suc, le_antisymm}
use native.Mathlib.Omega.{arith}
use native.Mathlib.Numerals.{add-one}
use lib.ListN.{length, take, drop, get_or, set, length-set, length-append, length-drop, replicate}
use lib.ListN.{length-map, length-replicate, get_or-replicate}
use lib.Seq.{length-take-le, take_all}
use lib.Seq.{take_at, drop_at, drop-drop}
use borrow.Rule.Slice.PartMut.{mid_of, put_mid}
use Rattle.std.specs.List.{copy_within}
use Rattle.tree.specs.Edit.{opened, closed}
use Rattle.tree.proofs.ColumnLaws.{tail_mid, tail_put}
use Rattle.shift.specs.Part.{shifted, opened_part, pulled, cleared}

-- ── moved within a column ──
-- towards the end
pub moved_down : (n by : ℕ) (xs : List ℕ) → copy_within xs 0 n by ≡ shifted n by xs
unfolding shifted
moved_down n by xs =
    append_assoc (take by xs) (take (n - 0) xs) (drop (by + (n - 0)) xs)
    ∙ ap₂ (λ (k m : ℕ). take by xs ++ (take k xs ++ drop m xs)) (omega arith) (omega arith)

-- a column whose part from row r on moved towards its front
pub moved_up : (r n by : ℕ) (xs end : List ℕ) → r + by ≤ n
    → end ≡ copy_within (mid_of r (length xs - r) xs) by (n - r) 0
    → put_mid r (length xs - r) xs end ≡ pulled r n by xs
unfolding pulled
moved_up r n by xs end h e =
    let rest : n - r - by ≡ n - (r + by) = omega arith in
    let last : r + (n - r - by) ≡ n - by = omega arith in
    tail_put r xs end ∙ ap (λ (z : List ℕ). take r xs ++ z)
    (e ∙ ap (λ (m : ℕ). take (n - r - by) (drop by (mid_of r (length xs - r) xs)) ++ drop m
    (mid_of r (length xs - r) xs))
    (zero-add (n - r - by))
    ∙ ap (λ (z : List ℕ). take (n - r - by) (drop by z) ++ drop (n - r - by) z) (tail_mid r xs)
    ∙ ap₂ (λ (y z : List ℕ). y ++ z) (ap₂ take rest (drop-drop by r xs))
    (drop-drop (n - r - by) r xs ∙ ap (λ (m : ℕ). drop m xs) last))

-- ── writing from the front on ──
-- the part once the first i rows are those of src
pub record Put (src xs part : List ℕ) (i : ℕ) : Type 0 where
  pub is : part ≡ take i src ++ drop i xs
  pub long : length part ≡ length xs

pub put_start : (src xs : List ℕ) → Put src xs xs 0
put_start src xs = record { is = refl; long = refl }

store : (src dst : List ℕ) (i : ℕ) → i < length src → i < length dst
    → set (take i src ++ drop i dst) i (get_or src i 0) ≡ take (suc i) src ++ drop (suc i) dst
store [] dst i h k = absurd (not-suc-le-zero h)
store (x ∷ xs) [] i h k = absurd (not-suc-le-zero k)
store (x ∷ xs) (y ∷ ys) zero h k = refl
store (x ∷ xs) (y ∷ ys) (suc i) h k =
    ap (λ (l : List ℕ). x ∷ l) (store xs ys i (le_of_suc-le-suc h) (le_of_suc-le-suc k))

pub put_turn : {src xs part : List ℕ} {i v : ℕ} → Put src xs part i → i < length src → i < length xs
    → v ≡ get_or src i 0
    → Put src xs (set part i v) (i + 1)
put_turn {src} {xs} {part} {i} {v} p h k e = record {
  is = ap₂ (λ (z : List ℕ) (w : ℕ). set z i w) p.is e ∙ store src xs i h k
      ∙ ap (λ (m : ℕ). take m src ++ drop m xs) (sym (add-one i));
  long = length-set part i v ∙ p.long;
}

pub put_end : {src xs part : List ℕ} {i : ℕ} (n : ℕ) → Put src xs part i → i ≤ n → n ≤ i
    → part ≡ take n src ++ drop n xs
put_end {src} {xs} n p h k = p.is ∙ ap (λ (m : ℕ). take m src ++ drop m xs) (le_antisymm h k)

pub get_d_raised : (add i : ℕ) (xs : List ℕ) → i < length xs → get_or xs i 0 + add ≡ get_or (map (λ l. l + add) xs) i 0
get_d_raised add i [] h = absurd (not-suc-le-zero h)
get_d_raised add zero (x ∷ xs) h = refl
get_d_raised add (suc i) (x ∷ xs) h = get_d_raised add i xs (le_of_suc-le-suc h)

-- the rows of src, each with add more
pub raised_turn : (add : ℕ) (src : List ℕ) {xs part : List ℕ} {i : ℕ} → Put (map (λ l. l + add) src) xs part i
    → i < length src → i < length xs → Put (map (λ l. l + add) src) xs (set part i (get_or src i 0 + add)) (i + 1)
raised_turn add src {i = i} p h k =
    put_turn p (subst (λ (m : ℕ). i < m) (sym (length-map src (λ l. l + add))) h) k (get_d_raised add i src h)

-- zeros
pub clear_turn : (n : ℕ) {xs part : List ℕ} {i : ℕ} → Put (replicate n 0) xs part i → i < n → i < length xs
    → Put (replicate n 0) xs (set part i 0) (i + 1)
clear_turn n {i = i} p h k = put_turn p (rw length-replicate h) k (sym (get_or-replicate n i 0 0 h))

pub clear_end : {xs part : List ℕ} {i : ℕ} (n : ℕ) → Put (replicate n 0) xs part i → i ≤ n → n ≤ i
    → part ≡ replicate n 0 ++ drop n xs
clear_end {xs} n p h k =
    put_end n p h k ∙ ap (λ (z : List ℕ). z ++ drop n xs)
    (take_all n (replicate n 0) (rw length-replicate (omega arith)))

-- ── the parts that the movers make ──
-- shifted down, then the piece over the front
pub open_part_lem : (n by : ℕ) (piece xs mid end : List ℕ) → n + by ≤ length xs → mid ≡ shifted n by xs
    → end ≡ take by piece ++ drop by mid → end ≡ opened_part n by piece xs
unfolding shifted opened_part
open_part_lem n by piece xs mid end h e f =
    f ∙ ap (λ (z : List ℕ). take by piece ++ z)
    (ap (drop by) e ∙ drop_at (take by xs) (take n xs ++ drop (n + by) xs) by (length-take-le by xs (omega arith)))

-- a column whose part from the gap on was opened
pub open_column_lem : (gap n by : ℕ) (piece xs end : List ℕ) → gap ≤ n
    → end ≡ opened_part (n - gap) by piece (mid_of gap (length xs - gap) xs)
    → put_mid gap (length xs - gap) xs end ≡ opened gap n by piece xs
unfolding opened_part opened
open_column_lem gap n by piece xs end h e =
    let same : gap + (n - gap + by) ≡ n + by = omega arith in
    tail_put gap xs end ∙ ap (λ (z : List ℕ). take gap xs ++ z)
    (e ∙ ap (opened_part (n - gap) by piece) (tail_mid gap xs)
    ∙ ap (λ (z : List ℕ). take by piece ++ (take (n - gap) (drop gap xs) ++ z))
    (drop-drop (n - gap + by) gap xs ∙ ap (λ (m : ℕ). drop m xs) same))

-- a column whose part from a row on was cleared at its front
pub clear_column_lem : (from to : ℕ) (xs end : List ℕ) → from ≤ to
    → end ≡ replicate (to - from) 0 ++ drop (to - from) (mid_of from (length xs - from) xs)
    → put_mid from (length xs - from) xs end ≡ cleared from to xs
unfolding cleared
clear_column_lem from to xs end h e =
    let same : from + (to - from) ≡ to = omega arith in
    tail_put from xs end ∙ ap (λ (z : List ℕ). take from xs ++ z)
    (e ∙ ap (λ (z : List ℕ). replicate (to - from) 0 ++ z)
    (ap (drop (to - from)) (tail_mid from xs) ∙ drop-drop (to - from) from xs ∙ ap (λ (m : ℕ). drop m xs) same))

-- rows cleared behind others
clear_behind : (n by : ℕ) (us xs up end : List ℕ) → by ≤ n → length us ≡ n - by → up ≡ us ++ drop (n - by) xs
    → end ≡ cleared (n - by) n up → end ≡ us ++ (replicate by 0 ++ drop n xs)
unfolding cleared
clear_behind n by us xs up end h l e f =
    let gone : n - (n - by) ≡ by = omega arith in
    let all : n - by + by ≡ n = omega arith in
    let rest : drop n up ≡ drop n xs =
    ap (λ (m : ℕ). drop m up) (sym all) ∙ sym (drop-drop by (n - by) up)
    ∙ ap (drop by) (ap (drop (n - by)) e ∙ drop_at us (drop (n - by) xs) (n - by) l)
    ∙ drop-drop by (n - by) xs ∙ ap (λ (m : ℕ). drop m xs) all in
    f ∙ ap₂ ◌++◌ (ap (take (n - by)) e ∙ take_at us (drop (n - by) xs) (n - by) l)
    (ap₂ (λ (m : ℕ) (z : List ℕ). replicate m 0 ++ z) gone rest)

-- closed up, then the freed rows cleared
pub pulled_cleared : (r n by : ℕ) (xs up end : List ℕ) → r + by ≤ n → n ≤ length xs → up ≡ pulled r n by xs
    → end ≡ cleared (n - by) n up → end ≡ closed r n by xs
unfolding pulled closed
pulled_cleared r n by xs up end h k e f =
    let long : length (take r xs ++ take (n - (r + by)) (drop (r + by) xs)) ≡ n - by =
    length-append (take r xs) (take (n - (r + by)) (drop (r + by) xs))
    ∙ ap₂ ◌+◌ (length-take-le r xs (omega arith))
    (length-take-le (n - (r + by)) (drop (r + by) xs) (simp length-drop (omega arith))) ∙ omega arith in
    clear_behind n by (take r xs ++ take (n - (r + by)) (drop (r + by) xs)) xs up end (omega arith) long
    (e ∙ sym (append_assoc (take r xs) (take (n - (r + by)) (drop (r + by) xs)) (drop (n - by) xs))) f
    ∙ append_assoc (take r xs) (take (n - (r + by)) (drop (r + by) xs)) (replicate by 0 ++ drop n xs)
