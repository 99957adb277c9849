-- Laws of a column that begins with what was written to it (`Wrote`): nothing yet (`wrote_none`), one row more
-- (`wrote_more`), and what a part lent from there on begins with (`wrote_part`); it keeps its length (`wrote_length`);
-- two answers are equal (`wrote_only`). Assumes nothing.
use mathlib.Core.Path.{◌≡◌, refl, sym, ap, ap₂, subst, ◌∙◌}
use mathlib.Core.List.{List, [], ◌∷◌, ◌++◌, append_assoc}
use Prim.Native.Nat.{ℕ, suc, ◌+◌, ◌-◌, ◌<◌, ◌≤◌}
use native.Mathlib.Omega.{arith}
use lib.ListN.{length, get_or, set, take, drop, length-append, length-drop}
use lib.Seq.{drop-cons, set_at, append_snoc, take_at, drop_at, drop-drop}
use borrow.Rule.Slice.PartMut.{mid_of, put_mid}
use Rattle.tree.specs.Outcome.{overwritten}
use Rattle.tree.proofs.ColumnLaws.{tail_mid, tail_put}
use Rattle.scan.specs.OneRole.{Wrote}

-- by nothing
overwritten_none : (old : List ℕ) → old ≡ overwritten [] old
unfolding overwritten
overwritten_none old = refl

-- the length stays
pub overwritten_length : (xs old : List ℕ) → length xs ≤ length old → length (overwritten xs old) ≡ length old
unfolding overwritten
overwritten_length xs old l = simp (length-append, length-drop) (omega arith)

-- one more behind xs
overwritten_more : (xs old : List ℕ) (v : ℕ) → length xs < length old
    → set (overwritten xs old) (length xs) v ≡ overwritten (xs ++ (v ∷ [])) old
unfolding overwritten
overwritten_more xs old v l =
    let e : suc (length xs) ≡ length (xs ++ (v ∷ [])) = simp length-append (omega arith) in
    ap (λ (r : List ℕ). set (xs ++ r) (length xs) v) (drop-cons old (length xs) 0 l)
    ∙ set_at xs (get_or old (length xs) 0) (drop (suc (length xs)) old) v (length xs) refl
    ∙ sym (append_snoc xs v (drop (suc (length xs)) old))
    ∙ ap (λ (j : ℕ). xs ++ (v ∷ []) ++ drop j old) e

-- ys in front of what is behind xs
overwritten_twice : (xs ys old : List ℕ) → take (length xs) (overwritten xs old)
    ++ overwritten ys (drop (length xs) (overwritten xs old)) ≡ overwritten (xs ++ ys) old
unfolding overwritten
overwritten_twice xs ys old =
    ap₂ (λ (a b : List ℕ). a ++ (ys ++ drop (length ys) b)) (take_at xs (drop (length xs) old) (length xs) refl)
    (drop_at xs (drop (length xs) old) (length xs) refl)
    ∙ ap (λ (z : List ℕ). xs ++ (ys ++ z)) (drop-drop (length ys) (length xs) old)
    ∙ sym (append_assoc xs ys (drop (length xs + length ys) old))
    ∙ ap (λ (j : ℕ). xs ++ ys ++ drop j old) (sym (length-append xs ys))

-- the same, of an equal list
pub wrote_as : {xs ys old new : List ℕ} {r : ℕ} → xs ≡ ys → Wrote xs old r new → Wrote ys old r new
wrote_as {old = old} {new} {r} e h = subst (λ (zs : List ℕ). Wrote zs old r new) e h

-- nothing is written yet
pub wrote_none : (old : List ℕ) → Wrote [] old 0 old
wrote_none old = record { many = refl; holds = overwritten_none old }

module _ {xs old : List ℕ} {r : ℕ} {new : List ℕ} (s : Wrote xs old r new) where
  -- the column keeps its length
  pub wrote_length : length xs ≤ length old → length new ≡ length old
  wrote_length l = ap length s.holds ∙ overwritten_length xs old l

  -- one row more
  pub wrote_more : (v : ℕ) → length xs < length old → Wrote (xs ++ (v ∷ [])) old (r + 1) (set new r v)
  wrote_more v l = record {
    many = simp length-append (omega (arith, s.many));
    holds = ap₂ (λ (n : List ℕ) (i : ℕ). set n i v) s.holds s.many ∙ overwritten_more xs old v l;
  }

  -- what the part from r on, lent, begins with
  pub wrote_part : {ys : List ℕ} {k : ℕ} {part : List ℕ} → Wrote ys (mid_of r (length new - r) new) k part
      → Wrote (xs ++ ys) old (r + k) (put_mid r (length new - r) new part)
  wrote_part {ys} {k} {part} t = record {
    many = simp length-append (omega (arith, s.many, t.many));
    holds = tail_put r new part
        ∙ ap (λ (z : List ℕ). take r new ++ z) (t.holds ∙ ap (overwritten ys) (tail_mid r new))
        ∙ ap₂ (λ (n : List ℕ) (i : ℕ). take i n ++ overwritten ys (drop i n)) s.holds s.many
        ∙ overwritten_twice xs ys old;
  }

-- two answers that a contract of this kind allows are equal, and so are the columns
pub wrote_only : {xs old : List ℕ} {r s : ℕ} {a b : List ℕ} → Wrote xs old r a → Wrote xs old s b → (r ≡ s) × (a ≡ b)
wrote_only p q = (p.many ∙ sym q.many, p.holds ∙ sym q.holds)
