-- A table of one tree gets every answer that 01 gives it: each definition that RULES 02, E2 changed says of such a
-- table what 01 says. The rules of a row: `one_row`; the axes following and preceding: `one_following`,
-- `one_preceding`; which pairs are redundant: `one_drops`; refusal 15: `one_delete`; refusal 10 for a piece of one
-- tree: `one_piece`. A piece of several trees broke 01's level rule and still gets 10: `several_piece`. The other
-- definitions are 01's, to the letter, so what stands on these is the same too. Assumes nothing.
use mathlib.Core.Path.{◌≡◌, refl, sym, ap, ap₂, ◌∙◌}
use mathlib.Core.Bool.{Bool, true, false, cond, not, ◌&&◌, ◌||◌, or-false, or-true}
use mathlib.Core.List.{List}
use Prim.Native.Nat.{ℕ, suc, ◌+◌, ◌-◌, ◌<◌, ◌≤◌}
use native.Mathlib.Omega.{arith}
use native.Mathlib.Decide.{ℕ_discrete}
use borrow.Author.Tests.{eq-eqb, ne_eqb, le-leb}
use lib.Dec.{eqb, leb, ltb}
use Rattle.tree.specs.Table.{Table, at, count_ok}
use Rattle.tree.specs.Sound.{level_ok, kind_ok, beside_key_ok, first_bad, size_ok, name_ok}
use Rattle.tree.specs.Rules.{Sound}
use Rattle.tree.specs.EditRules.{OtherRoot}
use Rattle.tree.specs.Tree.{ancestor, root, same_tree, other_root}
use Rattle.tree.specs.Axis.{following, preceding}
use Rattle.tree.specs.Kept.{drops}
use Rattle.tree.specs.Refusal.{given, bad_piece, delete_check}
use Rattle.tree.proofs.AcceptLaws.{other_root_lem, no_other_root}
use Rattle.tree.proofs.RootLaws.{nearest_past}
use Rattle.tree.specs.declared.Refusal.TheVariants.{DeletesRoot}

-- one tree: no row after row 0, of the first n, has level 0
abbrev pub Lone : List ℕ → ℕ → Type 0
Lone level n = (i : ℕ) → i < n → 0 < i → 1 ≤ at level i

-- ── the axes and the kept count ──
module _ (level : List ℕ) (n : ℕ) (o : Lone level n) where
  -- all rows have the root of row 0
  lone_root : (w : ℕ) → w < n → root level w ≡ root level 0
  unfolding root
  lone_root w l =
      nearest_past (λ k. eqb (at level k) 0) 1 (suc w) (omega arith)
      (λ k a b. ne_eqb (at level k) 0 (λ e. omega (arith, o k (omega arith) (omega arith))))

  -- so all are in the same tree
  pub lone_same : (c w : ℕ) → c < n → w < n → same_tree level c w ≡ true
  unfolding same_tree
  lone_same c w m l = eq-eqb _ _ (lone_root c m ∙ sym (lone_root w l))

  -- 01: following is after c and not its descendant
  pub one_following : (c w : ℕ) → c < n → w < n → following level c w ≡ (ltb c w && not (ancestor level c w))
  unfolding following
  one_following c w m l = simp (lone_same c w m l)

  -- 01: preceding is before c and not its ancestor
  pub one_preceding : (c w : ℕ) → c < n → w < n → preceding level c w ≡ (ltb w c && not (ancestor level w c))
  unfolding preceding
  one_preceding c w m l = simp (lone_same c w m l)

  -- 01: on axes 8 and 9 one pair per role remains, on the others as ever
  pub one_drops : (axis c d : ℕ) → c < n → d < n
      → drops axis level c d
      ≡ cond (eqb axis 3 || eqb axis 4) (ancestor level d c)
      (cond (eqb axis 6 || eqb axis 7) (ancestor level c d)
      (cond (eqb axis 8 || eqb axis 9) (ltb d c)
      false))
  unfolding drops
  one_drops axis c d m l = simp (lone_same c d m l)

  -- row 0 is the only root
  lone_only : other_root level n 0 ≡ false
  lone_only =
      (no_other_root level n 0).1
      (λ h. let u = h.unlike in let e = h.top in omega (arith, o h.row h.inside (omega arith)))

-- ── the rules of a row ──
-- a test of row 0's level says nothing more where that level is right
first : (b s x y w n : Bool) → (b && s && (x && (y || b) && w) && n) ≡ (b && s && (x && (y || true) && w) && n)
first true s x y w n = refl
first false s x y w n = refl

-- 01: a later row's level is 1 or more, and a document stands only at row 0
pub one_row : (t : Table) → Lone t.level t.count → (i : ℕ) → i < t.count
    → beside_key_ok t i
    ≡ (cond (eqb i 0) (eqb (at t.level i) 0)
    (leb 1 (at t.level i) && leb (at t.level i) 63 && leb (at t.level i) (at t.level (i - 1) + 1))
    && size_ok t.size t.level t.count i
    && (leb (at t.kind i) 4 && (not (eqb (at t.kind i) 0) || eqb i 0)
    && (leb (at t.kind i) 1 || eqb (at t.size i) 0))
    && name_ok (at t.kind i) (at t.name i))
unfolding beside_key_ok level_ok kind_ok
one_row t o i l = elim (ℕ_discrete i 0) [
  | yes z ↦ rw (eq-eqb i 0 z) (first (eqb (at t.level i) 0) (size_ok t.size t.level t.count i)
      (leb (at t.kind i) 4) (not (eqb (at t.kind i) 0)) (leb (at t.kind i) 1 || eqb (at t.size i) 0)
      (name_ok (at t.kind i) (at t.name i)))
  | no z ↦
      let h : 1 ≤ at t.level i = o i l (omega arith) in
      simp (ne_eqb i 0 z, le-leb 1 (at t.level i) h, ne_eqb (at t.level i) 0 (λ e. omega arith))
]

-- ── the edits ──
-- 01: 15 is given for row 0
pub one_delete : (t : Table) → Sound t → Lone t.level t.count → (r : ℕ) → r < t.count
    → delete_check t r ≡ given (eqb r 0) DeletesRoot
unfolding delete_check
one_delete t s o r l = ap (λ (b : Bool). given b DeletesRoot) (elim (ℕ_discrete r 0) [
  | yes z ↦ ap₂ (λ (a b : Bool). a && not b) (eq-eqb _ _ ((s.rows r l).levels.root z))
      (ap (other_root t.level t.count) z ∙ lone_only t.level t.count o) ∙ sym (eq-eqb r 0 z)
  | no z ↦
      let h : 1 ≤ at t.level r = o r l (omega arith) in
      ap (λ (a : Bool). a && not (other_root t.level t.count r))
      (ne_eqb (at t.level r) 0 (λ e. omega arith)) ∙ sym (ne_eqb r 0 z)
])

-- 01: 10 is given for a piece that would get 1 or 2, or whose row 0 is a document
pub one_piece : (p : Table) → Lone p.level p.count
    → bad_piece p ≡ (not (count_ok p) || ltb (first_bad p) p.count || eqb (at p.kind 0) 0)
unfolding bad_piece
one_piece p o = rw (lone_only p.level p.count o) (or-false _)

-- 02: and for a piece of several trees
pub several_piece : (p : Table) → OtherRoot p.level p.count 0 → bad_piece p ≡ true
unfolding bad_piece
several_piece p h =
    rw ((other_root_lem p.level p.count 0).1 h)
    (or-true (not (count_ok p) || ltb (first_bad p) p.count || eqb (at p.kind 0) 0))
