-- A result column that grows from a number on: `appended-..`, twice `appended_then`; `wrote_appended` joins it to what
-- the column begins with, and `appended_front` is that itself. Assumes nothing.
use mathlib.Core.Path.{◌≡◌, sym, ap, ap₂, subst, ◌∙◌}
use mathlib.Core.List.{List, [], ◌∷◌, ◌++◌, append_assoc}
use Prim.Native.Nat.{ℕ, suc, ◌+◌, ◌<◌, ◌≤◌}
use native.Mathlib.Omega.{arith}
use lib.ListN.{length, get_or, take, drop, set, length-append, length-take, length-drop, take-append-drop}
use lib.Seq.{set_at, take_at, drop_at, drop-cons, drop-drop, append_snoc}
use Rattle.tree.specs.Outcome.{overwritten}
use Rattle.scan.specs.OneRole.{Wrote}
use Rattle.scan.specs.Range.{Appended}

-- the same, of an equal list
pub appended_as : {xs ys d new : List ℕ} {p r : ℕ} → xs ≡ ys → Appended xs d p r new → Appended ys d p r new
appended_as {d = d} {new} {p} {r} e h = subst (λ (zs : List ℕ). Appended zs d p r new) e h

pub appended_none : (d : List ℕ) (p : ℕ) → Appended [] d p p d
unfolding overwritten
appended_none d p = record { many = omega arith; holds = sym (take-append-drop p d) }

pub appended_length : {xs d out : List ℕ} {p m : ℕ} → Appended xs d p m out → p + length xs ≤ length d
    → length out ≡ length d
unfolding overwritten
appended_length h l =
    ap length h.holds ∙ simp (length-append, length-take, length-drop) (omega arith)

-- one more
pub appended_more : {xs d out : List ℕ} {p m : ℕ} (v : ℕ) → Appended xs d p m out → m < length d
    → Appended (xs ++ (v ∷ [])) d p (m + 1) (set out m v)
unfolding overwritten
appended_more {xs} {d} {out} {p} {m} v h l =
    let e : length (xs ++ (v ∷ [])) ≡ length xs + 1 = length-append xs (v ∷ []) in
    let g : m ≡ p + length xs = h.many in
    let n : length (take p d ++ xs) ≡ m = simp (length-append, length-take) (omega arith) in
    let s : suc m ≡ p + length (xs ++ (v ∷ [])) = omega arith in
    let old : drop (length xs) (drop p d) ≡ get_or d m 0 ∷ drop (suc m) d =
    drop-drop (length xs) p d ∙ ap (λ (k : ℕ). drop k d) (sym g) ∙ drop-cons d m 0 l in
    let rest : drop (suc m) d ≡ drop (length (xs ++ (v ∷ []))) (drop p d) =
    ap (λ (k : ℕ). drop k d) s ∙ sym (drop-drop (length (xs ++ (v ∷ []))) p d) in
    record {
      many = omega arith;
      holds =
          ap (λ (o : List ℕ). set o m v) (h.holds ∙ sym (append_assoc (take p d) xs (drop (length xs) (drop p d))))
          ∙ ap (λ (o : List ℕ). set ((take p d ++ xs) ++ o) m v) old
          ∙ set_at (take p d ++ xs) (get_or d m 0) (drop (suc m) d) v m n
          ∙ append_assoc (take p d) xs (v ∷ drop (suc m) d)
          ∙ ap (λ (o : List ℕ). take p d ++ o) (sym (append_snoc xs v (drop (suc m) d)))
          ∙ ap (λ (o : List ℕ). take p d ++ ((xs ++ (v ∷ [])) ++ o)) rest;
    }

-- what is appended to a column comes after what it begins with
pub wrote_appended : {xs ys d out new : List ℕ} {m r : ℕ} → Wrote xs d m out → Appended ys out m r new
    → Wrote (xs ++ ys) d r new
unfolding overwritten
wrote_appended {xs} {ys} {d} {out} {new} {m} h a =
    let n : length xs ≡ m = sym h.many in
    let l : length xs + length ys ≡ length (xs ++ ys) = sym (length-append xs ys) in
    let t : take m out ≡ xs = ap (take m) h.holds ∙ take_at xs (drop (length xs) d) m n in
    let u : drop m out ≡ drop (length xs) d = ap (drop m) h.holds ∙ drop_at xs (drop (length xs) d) m n in
    record {
      many = a.many ∙ ap (λ (k : ℕ). k + length ys) h.many ∙ l;
      holds =
          a.holds
          ∙ ap₂ (λ (b c : List ℕ). b ++ (ys ++ drop (length ys) c)) t u
          ∙ ap (λ (c : List ℕ). xs ++ (ys ++ c)) (drop-drop (length ys) (length xs) d ∙ ap (λ (k : ℕ). drop k d) l)
          ∙ sym (append_assoc xs ys (drop (length (xs ++ ys)) d));
    }

-- appended at the front: what the column begins with
pub appended_front : {xs d new : List ℕ} {r : ℕ} → Appended xs d 0 r new → Wrote xs d r new
appended_front h = record { many = omega (arith, h.many); holds = h.holds }

-- ── twice ──
module _ (d : List ℕ) (p : ℕ) (l : p ≤ length d) where
  -- the part before it has its length
  before : (xs : List ℕ) → p + length xs ≡ length (take p d ++ xs)
  before xs = simp (length-append, length-take) (omega arith)

  -- appended from a number on: the column begins with what was before it, and then that
  begins : {xs new : List ℕ} {r : ℕ} → Appended xs d p r new → Wrote (take p d ++ xs) d r new
  unfolding overwritten
  begins {xs} h = record {
    many = h.many ∙ before xs;
    holds = h.holds
        ∙ sym (append_assoc (take p d) xs (drop (length xs) (drop p d)))
        ∙ ap (λ (o : List ℕ). (take p d ++ xs) ++ o)
        (drop-drop (length xs) p d ∙ ap (λ (k : ℕ). drop k d) (before xs));
  }

  ends : {xs new : List ℕ} {r : ℕ} → Wrote (take p d ++ xs) d r new → Appended xs d p r new
  unfolding overwritten
  ends {xs} h = record {
    many = h.many ∙ sym (before xs);
    holds = h.holds
        ∙ ap (λ (o : List ℕ). (take p d ++ xs) ++ o)
        (ap (λ (k : ℕ). drop k d) (sym (before xs)) ∙ sym (drop-drop (length xs) p d))
        ∙ append_assoc (take p d) xs (drop (length xs) (drop p d));
  }

-- what is appended after what was appended
pub appended_then : {xs ys d out new : List ℕ} {p m r : ℕ} → p ≤ length d → Appended xs d p m out
    → Appended ys out m r new → Appended (xs ++ ys) d p r new
appended_then {xs} {ys} {d} {new = new} {p} {r = r} l g h = ends d p l
    (subst (λ (zs : List ℕ). Wrote zs d r new) (append_assoc (take p d) xs ys) (wrote_appended (begins d p l g) h))

-- two answers that a contract of this kind allows are equal, and so are the columns
pub appended_only : {xs old : List ℕ} {written r s : ℕ} {a b : List ℕ} → Appended xs old written r a
    → Appended xs old written s b → (r ≡ s) × (a ≡ b)
appended_only p q = (p.many ∙ sym q.many, p.holds ∙ sym q.holds)
