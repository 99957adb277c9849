-- What was appended to a column, once it is turned round there: `appended_turned`. Assumes nothing.
use Prim.Native.Nat.{ℕ, ◌+◌, ◌-◌, ◌≤◌}
use mathlib.Core.Path.{◌≡◌, ap, ap₂, ◌∙◌}
use mathlib.Core.List.{List, ◌++◌, reverse, reverse-reverse}
use native.Mathlib.Omega.{arith}
use lib.ListN.{length, take, drop, length-reverse}
use lib.Seq.{length-take-le, take_at, drop_at}
use borrow.Rule.Slice.PartMut.{mid_of, put_mid}
use Rattle.tree.specs.Outcome.{overwritten}
use Rattle.scan.specs.Range.{Appended}

-- what was appended is turned round where it stands
pub appended_turned : {xs d out new : List ℕ} {p r : ℕ} → Appended (reverse xs) d p r out → p + length xs ≤ length d
    → new ≡ reverse (mid_of p (r - p) out) → Appended xs d p r (put_mid p (r - p) out new)
unfolding overwritten
appended_turned {xs} {d} {out} {new} {p} {r} h l e =
    let ys : List ℕ = reverse xs in
    let rest : List ℕ = drop (length ys) (drop p d) in
    let n : length ys ≡ length xs = length-reverse xs in
    let k : length ys ≡ r - p = omega (arith, h.many) in
    let front : length (take p d) ≡ p = length-take-le p d (omega arith) in
    let behind : drop p out ≡ ys ++ rest = ap (drop p) h.holds ∙ drop_at (take p d) (ys ++ rest) p front in
    record {
      many = h.many ∙ ap (λ (j : ℕ). p + j) n;
      holds =
          ap₂ (λ (a b : List ℕ). a ++ (new ++ drop (r - p) b))
          (ap (take p) h.holds ∙ take_at (take p d) (ys ++ rest) p front) behind
          ∙ ap₂ (λ (a b : List ℕ). take p d ++ (a ++ b))
          (e
          ∙ ap reverse (ap (take (r - p)) behind ∙ take_at ys rest (r - p) k)
          ∙ reverse-reverse xs)
          (drop_at ys rest (r - p) k ∙ ap (λ (j : ℕ). drop j (drop p d)) n);
    }
