-- The children of a row that are in one word, gathered into its bits: their hops stay in the rows in
-- use (`gathers_inside`), none is gathered yet (`gathered_start`), one more is (`gathered_next`), and there is one
-- (`gathered_some`). Assumes nothing.
use Prim.Native.Nat.{ℕ, suc, ◌+◌, ◌-◌, ◌*◌, ◌/◌, ◌%◌, ◌^◌, ◌<◌, ◌≤◌}
use mathlib.Core.Path.{◌≡◌, refl, sym, ap, ◌∙◌}
use mathlib.Core.Logic.{⊎_elim}
use mathlib.Core.Bool.{Bool, true, false, ◌&&◌, ◌||◌, false≢true, and-false, or_comm}
use native.Mathlib.Nat.{le_refl}
use native.Mathlib.Omega.{arith}
use borrow.Author.Tests.{eqb-true, eq-eqb, leb-true, leb-false, ne_eqb}
use lib.Dec.{eqb, leb}
use lib.Bits.{bit_or}
use Rattle.tree.specs.Table.{at}
use Rattle.tree.specs.Tree.{parent}
use Rattle.tree.proofs.TreeLaws.{less?}
use Rattle.tree.proofs.SoundLaws.{shape_fits, both, either, either_left, either_right}
use Rattle.tree.proofs.AxisLaws.{same_test}
use Rattle.scan.specs.declared.trees.Trees.{Trees}
use Rattle.marks.specs.RowSet.{bit, in_word}
use Rattle.marks.specs.Mark.{child_in, Gathers, Gathered}
use Rattle.marks.proofs.BitLaws.{bit_zero, bit_nonzero}
use Rattle.marks.proofs.RowSetLaws.{bit_with}
use Rattle.marks.proofs.ChildWalkLaws.{row_in_use, child_next, child_none, child_empty}
use Rattle.marks.proofs.ChildWalkLaws.{ChildIn, child_in_lem, in_child}

-- a word that is 0 has no row
word_zero : (base w : ℕ) → in_word base 0 w ≡ false
unfolding in_word
word_zero base w = ap (λ (t : Bool). leb base w && t) (bit_zero (w - base)) ∙ and-false (leb base w)

-- a word with a row is not 0
word_some : (base word w : ℕ) → in_word base word w ≡ true → word ≡ 0 → ⊥
unfolding in_word
word_some base word w e = bit_nonzero word (w - base) (both (leb base w) (bit word (w - base)) e).1

-- the rows of a word with the bit of row v
word_with : (j word v w : ℕ) → v / 64 ≡ j
    → in_word (64 * j) (bit_or word (2 ^ (v % 64))) w ≡ (eqb w v || in_word (64 * j) word w)
unfolding in_word
word_with j word v w h = go (leb (64 * j) w) refl
  where
    go : (t : Bool) → leb (64 * j) w ≡ t
        → (t && bit (bit_or word (2 ^ (v % 64))) (w - 64 * j)) ≡ (eqb w v || (t && bit word (w - 64 * j)))
    go true e =
        let l : 64 * j ≤ w = leb-true _ _ e in
        bit_with word (v % 64) (w - 64 * j)
        ∙ ap (λ (t : Bool). bit word (w - 64 * j) || t) (same_test _ _
        (λ z. let q : w - 64 * j ≡ v % 64 = eqb-true _ _ z in eq-eqb w v (omega arith))
        (λ z. let q : w ≡ v = eqb-true _ _ z in eq-eqb (w - 64 * j) (v % 64) (omega arith)))
        ∙ or_comm (bit word (w - 64 * j)) (eqb w v)
    go false e =
        let l : w < 64 * j = leb-false _ _ e in
        sym (ap (λ (t : Bool). t || false) (ne_eqb w v (λ q. omega arith)))

module _ {trees : Trees} {p a e : ℕ} (h : Gathers trees p a e) where
  -- its add-children stays in the columns
  pub gathers_inside : (v : ℕ) → v < e → v + at trees.size.now v < trees.count
  gathers_inside v q = omega (arith, shape_fits trees.shape v (row_in_use trees.shape h.row h.inside v q))

  pub gathered_start : Gathered trees p a e a 0
  gathered_start = record {
    low = le_refl a;
    child = λ z. h.child;
    inside = λ w t. absurd (child_empty trees.level.now p a w t);
    bits = λ w. word_zero (64 * (a / 64)) w ∙ sym (same_test _ _
        (λ t. absurd (child_empty trees.level.now p a w t))
        (λ t. absurd (false≢true t)));
  }

  module _ {v word : ℕ} (s : Gathered trees p a e v word) where
    -- the first child is in it
    pub gathered_some : a < v → word ≡ 0 → ⊥
    gathered_some l = word_some (64 * (a / 64)) word a (s.bits a
        ∙ in_child trees.level.now p a v a record { child = h.child; from = le_refl a; before = l })

    module _ (q : v < e) (r : ℕ) (k : r ≡ v + at trees.size.now v + 1) where
      is_child : parent trees.level.now v ≡ suc p
      is_child = s.child (omega (arith, h.inside))

      -- the children before the next are those before v, and v
      more_children : (w : ℕ) → (eqb w v || child_in trees.level.now p a v w) ≡ child_in trees.level.now p a r w
      more_children w = same_test _ _ there back
        where
          there : (eqb w v || child_in trees.level.now p a v w) ≡ true → child_in trees.level.now p a r w ≡ true
          there t = ⊎_elim
              (λ z. let g : w ≡ v = eqb-true w v z in
              in_child trees.level.now p a r w record {
                child = ap (parent trees.level.now) g ∙ is_child;
                from = omega (arith, s.low);
                before = omega arith;
              })
              (λ z. let x : ChildIn trees.level.now p a v w = child_in_lem trees.level.now p a v w z in
              in_child trees.level.now p a r w record { child = x.child; from = x.from; before = omega arith })
              (either (eqb w v) (child_in trees.level.now p a v w) t)

          back : child_in trees.level.now p a r w ≡ true → (eqb w v || child_in trees.level.now p a v w) ≡ true
          back t =
              let x : ChildIn trees.level.now p a r w = child_in_lem trees.level.now p a r w t in
              ⊎_elim
              (λ (z : w < v). either_right (eqb w v)
              (in_child trees.level.now p a v w record { child = x.child; from = x.from; before = z }))
              (λ (z : v ≤ w). ⊎_elim
              (λ (y : v < w).
              absurd (child_none trees.shape p v w (row_in_use trees.shape h.row h.inside v q) is_child y
              (omega arith) x.child))
              (λ (y : w ≤ v). either_left (child_in trees.level.now p a v w) (eq-eqb w v (omega arith)))
              (less? v w))
              (less? w v)

      -- child v is gathered, and the next is r
      pub gathered_next : Gathered trees p a e r (bit_or word (2 ^ (v % 64)))
      gathered_next = record {
        low = omega (arith, s.low);
        child = λ z. ap (parent trees.level.now) k
            ∙ child_next trees.shape p v h.row (row_in_use trees.shape h.row h.inside v q) is_child
            (omega arith);
        inside = λ w t. ⊎_elim
            (λ z. let g : w ≡ v = eqb-true w v z in omega arith)
            (λ z. s.inside w z)
            (either (eqb w v) (child_in trees.level.now p a v w) (more_children w ∙ t));
        bits = λ w. word_with (a / 64) word v w (omega (arith, s.low, h.word))
            ∙ ap (λ (t : Bool). eqb w v || t) (s.bits w)
            ∙ more_children w;
      }
