-- The children of a row, written as they are met by hops over subtrees (`Walked`): at the start (`walk_start`), past
-- one that does not pass (`walk_no`), with one that does (`walk_room`, `walk_yes`), several at once (`walk_asks`,
-- `walk_on`), and at the end (`walk_done`); the column keeps its length (`walk_length`). Assumes nothing.
use Prim.Native.Nat.{ℕ, suc, ◌+◌, ◌<◌, ◌≤◌}
use mathlib.Core.Path.{◌≡◌, sym, ap, ap₂, subst, ◌∙◌}
use mathlib.Core.Logic.{⊎_elim}
use mathlib.Core.Bool.{Bool, true, false, ◌&&◌}
use mathlib.Core.List.{List, [], ◌∷◌, ◌++◌, append-nil}
use native.Mathlib.Nat.{le_refl}
use native.Mathlib.Omega.{arith}
use borrow.Author.Tests.{eq-eqb, ne_eqb}
use lib.ListN.{length, set, length-append}
use Rattle.tree.specs.Table.{at}
use Rattle.tree.specs.Search.{only}
use Rattle.tree.specs.Tree.{parent}
use Rattle.tree.proofs.TreeLaws.{less?}
use Rattle.tree.proofs.SearchLaws.{only_none, only_one}
use Rattle.scan.specs.Want.{accepts}
use Rattle.scan.specs.Range.{rows_in, Appended}
use Rattle.scan.proofs.AppendedLaws.{appended_as, appended_none, appended_more, appended_length, appended_then}
use Rattle.scan.proofs.ScanLaws.{rows_cut, rows_skip, rows_one}
use Rattle.scan.proofs.SideLaws.{nests}
use Rattle.direct.specs.Children.{child_that, ChildOrEnd, ChildrenIn}
use Rattle.marks.proofs.ChildWalkLaws.{row_in_use, child_next, child_none}
use Rattle.scan.specs.declared.trees.Trees.{Trees}
use Rattle.scan.specs.declared.want.NodeTest.{NodeTest}

-- ── children that pass ──
module _ (test : ℕ → Bool) (level : List ℕ) (p w : ℕ) where
  -- of a child, its own test decides
  pub child_passes : parent level w ≡ suc p → child_that test level p w ≡ test w
  unfolding child_that
  child_passes e = ap (λ (b : Bool). b && test w) (eq-eqb (parent level w) (suc p) e)

  pub no_child : (parent level w ≡ suc p → ⊥) → child_that test level p w ≡ false
  unfolding child_that
  no_child n = ap (λ (b : Bool). b && test w) (ne_eqb (parent level w) (suc p) n)

-- of the children of p from row a on, and before row e, those before row v that pass are appended; v is the next child,
-- or the end
pub record Walked (trees : Trees) (test : NodeTest) (p a e : ℕ) (old : List ℕ) (written : ℕ) (out : List ℕ)
    (v next : ℕ) : Type 0 where
  pub low : a ≤ v
  pub high : v ≤ e
  pub here : ChildOrEnd trees.size.now trees.level.now p v
  pub appends : Appended (rows_in (child_that (accepts test) trees.level.now p) a v) old written next out

module _ {trees : Trees} {test : NodeTest} {p a e : ℕ} {old : List ℕ} {written : ℕ}
    (h : ChildrenIn trees test p a e old written) where
  -- the test, and the children that pass
  abbrev fit : ℕ → Bool
  fit = accepts test

  abbrev passing : ℕ → Bool
  passing = child_that fit trees.level.now p

  -- a row before the end is in use
  pub walk_row : (v : ℕ) → v < e → v < trees.count
  walk_row v l = row_in_use trees.shape h.row h.to.last v l

  -- none is written yet
  pub walk_start : Walked trees test p a e old written old a written
  walk_start = record {
    low = le_refl a;
    high = h.order;
    here = h.from;
    appends = appended_as (sym (rows_skip passing a a (λ w x y. absurd (omega arith)))) (appended_none old written);
  }

  module _ {out : List ℕ} {v next : ℕ}
      (s : Walked trees test p a e old written out v next) where
    -- those written and those to come
    in_all : length (rows_in passing a e) ≡ length (rows_in passing a v) + length (rows_in passing v e)
    in_all =
        ap length (rows_cut passing a v e s.low s.high)
        ∙ length-append (rows_in passing a v) (rows_in passing v e)

    -- the column keeps its length
    pub walk_length : length out ≡ length old
    walk_length = appended_length s.appends (omega (arith, in_all, h.room))

    -- those to come can be written
    pub walk_asks : ChildrenIn trees test p v e out next
    walk_asks = record {
      row = h.row;
      from = s.here;
      to = h.to;
      order = s.high;
      in_kind = h.in_kind;
      in_name = h.in_name;
      room = omega (arith, in_all, h.room, walk_length, s.appends.many);
    }

    -- several more
    pub walk_on : {r then : ℕ} {new : List ℕ} → v < r → r ≤ e → ChildOrEnd trees.size.now trees.level.now p r
        → Appended (rows_in passing v r) out next then new
        → Walked trees test p a e old written new r then
    walk_on {r} l m c d = record {
      low = omega (arith, s.low);
      high = m;
      here = c;
      appends = appended_as (sym (rows_cut passing a v r s.low (omega arith)))
          (appended_then (omega (arith, h.room)) s.appends d);
    }

    -- no child is left
    pub walk_done : e ≤ v → Appended (rows_in passing a e) old written next out
    walk_done l = let q : v ≡ e = omega (arith, s.high) in appended_as (ap (rows_in passing a) q) s.appends

    module _ (l : v < e) where
      child : parent trees.level.now v ≡ suc p
      child = s.here.child (omega (arith, h.to.last))

      inside : v + at trees.size.now v ≤ p + at trees.size.now p
      inside = (nests trees.shape).within p v h.row s.here.after (omega (arith, h.to.last))

      -- the row after the descendants of v
      abbrev N : ℕ
      N = v + at trees.size.now v + 1

      -- it is the next child, or the end
      next_child : ChildOrEnd trees.size.now trees.level.now p N
      next_child = record {
        after = omega (arith, s.here.after);
        last = omega (arith, inside);
        child = child_next trees.shape p v h.row (walk_row v l) child;
      }

      -- and it is not past the end, which is no row below v
      not_past : N ≤ e
      not_past = ⊎_elim
          (λ (x : e < N). absurd (child_none trees.shape p v e (walk_row v l) child l (omega arith)
          (h.to.child (omega (arith, inside)))))
          (λ x. x)
          (less? e N)

      -- of the rows from v up to it v alone is a child
      one : rows_in passing v N ≡ only (fit v) v
      one =
          rows_cut passing v (v + 1) N (omega arith) (omega arith)
          ∙ ap₂ ◌++◌
          (rows_one passing v (v + 1) (omega arith) (le_refl (v + 1))
          ∙ ap (λ (b : Bool). only b v) (child_passes fit trees.level.now p v child))
          (rows_skip passing (v + 1) N (λ w x y. no_child fit trees.level.now p w
          (child_none trees.shape p v w (walk_row v l) child (omega arith) (omega arith))))
          ∙ append-nil (only (fit v) v)

      more : rows_in passing a N ≡ rows_in passing a v ++ only (fit v) v
      more =
          rows_cut passing a v N s.low (omega arith) ∙ ap (λ (xs : List ℕ). rows_in passing a v ++ xs) one

      -- past v
      past : {then r : ℕ} {new : List ℕ} → r ≡ v + at trees.size.now v + 1
          → Appended (rows_in passing a N) old written then new
          → Walked trees test p a e old written new r then
      past {then} {new = new} q d =
          subst (λ (x : ℕ). Walked trees test p a e old written new x then) (sym q)
          (record { low = omega (arith, s.low); high = not_past; here = next_child; appends = d })

      -- v does not pass
      pub walk_no : {r : ℕ} → fit v ≡ false → r ≡ v + at trees.size.now v + 1
          → Walked trees test p a e old written out r next
      walk_no t q = past q (appended_as
          (sym (more ∙ ap (λ (xs : List ℕ). rows_in passing a v ++ xs) (only_none (fit v) v t)
          ∙ append-nil (rows_in passing a v)))
          s.appends)

      module _ (t : fit v ≡ true) where
        with_it : rows_in passing a N ≡ rows_in passing a v ++ (v ∷ [])
        with_it = more ∙ ap (λ (xs : List ℕ). rows_in passing a v ++ xs) (only_one (fit v) v t)

        fewer : next < length old
        fewer = omega (
          arith,
          s.appends.many,
          h.room,
          simp length-append at (ap length with_it),
          simp length-append at (ap length
              (rows_cut passing a N e (omega (arith, s.low)) not_past)),
        )

        -- there is room for it
        pub walk_room : next < length out
        walk_room = omega (arith, fewer, walk_length)

        -- it passes
        pub walk_yes : {r : ℕ} → r ≡ v + at trees.size.now v + 1
            → Walked trees test p a e old written (set out next v) r (next + 1)
        walk_yes q = past q (appended_as (sym with_it) (appended_more v s.appends fewer))
