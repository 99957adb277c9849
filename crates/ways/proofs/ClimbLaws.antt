-- The ancestors of a row in rows whose levels and sizes make trees: `parent_low`, `ancestor_path`. The rows on a path:
-- `path_before`, `path_own`, `path_above`. Those of them that are new: `way-..`. The walk that appends these, parent by
-- parent: `climb_start`, `climb_yes` and `climb_no` for a row, `climb_less`, `climb_done`; and what a
-- turn asks for, `climb_room` and `climb_length`. Assumes nothing.
use Prim.Native.Nat.{ℕ, zero, suc, ◌+◌, ◌<◌, ◌≤◌}
use mathlib.Core.Path.{◌≡◌, refl, sym, ap, ap₂, subst, ◌∙◌}
use mathlib.Core.Logic.{⊎_elim}
use mathlib.Core.Bool.{Bool, true, false, ◌&&◌, ◌||◌, false≢true}
use mathlib.Core.List.{List, [], ◌∷◌, ◌++◌, append-nil, reverse, reverse-append}
use native.Mathlib.Nat.{le_refl, eq-or-lt_of_le}
use native.Mathlib.Omega.{arith}
use borrow.Author.Tests.{eqb-true, eq-eqb, ne_eqb}
use lib.Dec.{eqb}
use lib.ListN.{length, set, length-append, length-reverse}
use lib.Seq.{append_snoc}
use Rattle.tree.specs.Search.{only}
use Rattle.tree.specs.Table.{at}
use Rattle.tree.specs.Tree.{parent, ancestor}
use Rattle.tree.specs.Rules.{Shape}
use Rattle.tree.proofs.SearchLaws.{only_none, only_one}
use Rattle.tree.proofs.TreeLaws.{Under, less?, parent_below, from_parent, under_parent, ancestor_under}
use Rattle.tree.proofs.SoundLaws.{shape_steps, either, either_left, either_right}
use Rattle.tree.proofs.AxisLaws.{same_test, false_of}
use Rattle.scan.specs.Want.{accepts}
use Rattle.scan.specs.Range.{rows_in, Appended}
use Rattle.scan.proofs.ScanLaws.{rows_same, rows_ended, rows_last, rows_empty}
use Rattle.scan.proofs.AppendedLaws.{appended_as, appended_none, appended_more, appended_length}
use Rattle.ways.specs.Above.{on_path, way_up, WayIn}
use Rattle.scan.specs.declared.trees.Trees.{Trees}
use Rattle.scan.specs.declared.want.NodeTest.{NodeTest}

-- a parent is an earlier row
pub parent_low : (level : List ℕ) (v : ℕ) → parent level v ≤ v
parent_low level v = go (parent level v) refl
  where
    go : (q : ℕ) → parent level v ≡ q → q ≤ v
    go zero e = omega arith
    go (suc p) e = parent_below level v p e

-- ── ancestors ──
module _ {size level : List ℕ} {n : ℕ} (s : Shape size level n) where
  under_trans : (a b c : ℕ) → Under level a b → Under level b c → Under level a c
  under_trans a b c u v = record {
    after = omega (arith, u.after, v.after);
    deeper = λ k x y. ⊎_elim
        (λ (q : b < k). omega (arith, u.deeper b u.after (le_refl b), v.deeper k q y))
        (λ q. u.deeper k x q)
        (less? b k);
  }

  under : (a c : ℕ) → c < n → ancestor level a c ≡ true → Under level a c
  under a c l = (ancestor_under level n (shape_steps s) a c l).0

  of_under : (a c : ℕ) → c < n → Under level a c → ancestor level a c ≡ true
  of_under a c l = (ancestor_under level n (shape_steps s) a c l).1

  -- an ancestor is an earlier row
  ancestor_before : (a c : ℕ) → c < n → ancestor level a c ≡ true → a < c
  ancestor_before a c l x = (under a c l x).after

  -- an ancestor's ancestor is an ancestor
  ancestor_trans : (a b c : ℕ) → c < n → ancestor level a b ≡ true → ancestor level b c ≡ true
      → ancestor level a c ≡ true
  ancestor_trans a b c l x y =
      let v : Under level b c = under b c l y in
      of_under a c l (under_trans a b c (under a b (omega (arith, v.after)) x) v)

  -- no row between a row and its parent is an ancestor
  not_between : (v w : ℕ) → v < n → parent level v ≤ w → Under level w v → ⊥
  not_between v w l a u =
      omega (arith, from_parent level n (shape_steps s) v l w a u.after, u.deeper v u.after (le_refl v))

  -- the ancestors are the parent and its ancestors
  pub ancestor_path : (v w : ℕ) → v < n → ancestor level w v ≡ on_path level (parent level v) w
  unfolding on_path
  ancestor_path v w l = same_test _ _ (λ e. there (parent level v) refl (under w v l e)) (back (parent level v) refl)
    where
      there : (q : ℕ) → parent level v ≡ q → Under level w v → on_path level q w ≡ true
      there zero e u = absurd (not_between v w l (omega arith) u)
      there (suc p) e u =
          let b : p < v = parent_below level v p e in
          ⊎_elim
          (λ (q : w < p). either_right (eqb w p)
          (of_under w p (omega arith) record { after = q; deeper = λ k x y. u.deeper k x (omega arith) }))
          (λ (q : p ≤ w). ⊎_elim
          (λ (z : p ≡ w). either_left (ancestor level w p) (eq-eqb w p (sym z)))
          (λ (z : p < w). absurd (not_between v w l (omega arith) u))
          (eq-or-lt_of_le q))
          (less? w p)

      back : (q : ℕ) → parent level v ≡ q → on_path level q w ≡ true → ancestor level w v ≡ true
      back zero e h = absurd (false≢true h)
      back (suc p) e h =
          let a : ancestor level p v ≡ true = of_under p v l (under_parent level n (shape_steps s) v p l e) in
          ⊎_elim
          (λ z. subst (λ (x : ℕ). ancestor level x v ≡ true) (sym (eqb-true w p z)) a)
          (λ z. ancestor_trans w p v l z a)
          (either (eqb w p) (ancestor level w p) h)

  -- a row on a path lies before its link
  pub path_before : (link w : ℕ) → link ≤ n → on_path level link w ≡ true → w < link
  unfolding on_path
  path_before zero w l t = absurd (false≢true t)
  path_before (suc v) w l t = ⊎_elim
      (λ z. omega (arith, eqb-true w v z))
      (λ z. omega (arith, ancestor_before w v (omega arith) z))
      (either (eqb w v) (ancestor level w v) t)

  module _ (v : ℕ) (l : v < n) where
    -- a row is on its own path
    pub path_own : on_path level (suc v) v ≡ true
    unfolding on_path
    path_own = either_left (ancestor level v v) (eq-eqb v v refl)

    -- an earlier row is on the path exactly if it is on the parent's
    pub path_above : (w : ℕ) → w < v → on_path level (suc v) w ≡ on_path level (parent level v) w
    unfolding on_path
    path_above w m =
        ap (λ (b : Bool). b || ancestor level w v) (ne_eqb w v (λ (e : w ≡ v). omega arith))
        ∙ ancestor_path v w l

-- ── the new rows of the way up ──
-- none is left
way_none : (level : List ℕ) (floor start : ℕ) (f : ℕ → Bool) → start ≤ floor → way_up level floor start f ≡ []
unfolding way_up
way_none level floor start f l = rows_empty (λ w. on_path level start w && f w) floor start l

module _ {size level : List ℕ} {n : ℕ} (s : Shape size level n) (floor : ℕ) (f : ℕ → Bool) where
  -- the same rows, asked for up to a later row
  pub way_rows : (start to : ℕ) → start ≤ n → start ≤ to
      → rows_in (λ w. on_path level start w && f w) floor to ≡ way_up level floor start f
  unfolding way_up
  way_rows start to l m = rows_ended (λ w. on_path level start w && f w) floor start to m (λ w a b.
      ap (λ (t : Bool). t && f w)
      (false_of (on_path level start w) (λ t. omega (arith, path_before s start w l t))))

  -- those of a row are those of its parent, and the row itself
  way_snoc : (v : ℕ) → v < n → floor ≤ v
      → way_up level floor (suc v) f ≡ way_up level floor (parent level v) f ++ only (f v) v
  unfolding way_up
  way_snoc v l m =
      let p : parent level v ≤ v = parent_low level v in
      rows_last (λ w. on_path level (suc v) w && f w) floor v m
      ∙ ap₂ (λ (xs : List ℕ) (b : Bool). xs ++ only (b && f v) v)
      (rows_same (λ w. on_path level (suc v) w && f w) (λ w. on_path level (parent level v) w && f w) floor v
      (λ w a b. ap (λ (t : Bool). t && f w) (path_above s v l w b))
      ∙ way_rows (parent level v) v (omega arith) p)
      (path_own s v l)

-- ── the walk ──
-- at most one row, turned round
reverse_only : (b : Bool) (w : ℕ) → reverse (only b w) ≡ only b w
reverse_only true w = refl
reverse_only false w = refl

-- the rows met are appended, from the last to the first, and the others are those of the way up from a
pub record Climbed (trees : Trees) (test : NodeTest) (floor start : ℕ) (d : List ℕ) (written : ℕ) (out : List ℕ)
    (next a : ℕ) : Type 0 where
  pub met : List ℕ
  pub low : a ≤ trees.count
  pub split : reverse (way_up trees.level.now floor start (accepts test))
      ≡ met ++ reverse (way_up trees.level.now floor a (accepts test))
  pub appends : Appended met d written next out

module _ {trees : Trees} {test : NodeTest} {up : List ℕ} {floor start : ℕ} {d : List ℕ}
    {written : ℕ} (h : WayIn trees up test floor start d written) where
  abbrev fit : ℕ → Bool
  fit = accepts test

  -- the rows from the link a on that are new, as they are met
  abbrev left : ℕ → List ℕ
  left a = reverse (way_up trees.level.now floor a fit)

  pub climb_start : Climbed trees test floor start d written d written start
  climb_start = record { met = []; low = h.low; split = refl; appends = appended_none d written }

  module _ {out : List ℕ} {next a : ℕ}
      (s : Climbed trees test floor start d written out next a) where
    -- how many rows are met and left
    parts : length (way_up trees.level.now floor start fit) ≡ length s.met + length (left a)
    parts =
        sym (length-reverse (way_up trees.level.now floor start fit))
        ∙ ap length s.split
        ∙ length-append s.met (left a)

    pub climb_length : length out ≡ length d
    climb_length = appended_length s.appends (omega (arith, parts, h.room))

    pub climb_done : a ≤ floor → Appended (reverse (way_up trees.level.now floor start fit)) d written next out
    climb_done l = appended_as
        (sym (s.split
        ∙ ap (λ (xs : List ℕ). s.met ++ reverse xs) (way_none trees.level.now floor a fit l)
        ∙ append-nil s.met))
        s.appends

    module _ (v : ℕ) (e : a ≡ suc v) (m : floor < a) where
      row_in : v < trees.count
      row_in = omega (arith, s.low)

      P-is : at up v ≡ parent trees.level.now v
      P-is = h.parents.parents v row_in

      pub climb_less : at up v < a
      climb_less = omega (arith, P-is, parent_low trees.level.now v)

      -- row v is met next
      next_row : left a ≡ only (fit v) v ++ left (at up v)
      next_row =
          ap left e
          ∙ ap reverse (way_snoc trees.shape floor fit v row_in (omega arith))
          ∙ reverse-append (way_up trees.level.now floor (parent trees.level.now v) fit) (only (fit v) v)
          ∙ ap₂ (λ (xs : List ℕ) (k : ℕ). xs ++ left k) (reverse_only (fit v) v) (sym P-is)

      -- it does not fit
      pub climb_no : fit v ≡ false → Climbed trees test floor start d written out next (at up v)
      climb_no f = record {
        met = s.met;
        low = omega (arith, climb_less, s.low);
        split =
            s.split
            ∙ ap (λ (xs : List ℕ). s.met ++ xs)
            (next_row ∙ ap (λ (xs : List ℕ). xs ++ left (at up v)) (only_none (fit v) v f));
        appends = s.appends;
      }

      -- it fits
      module _ (f : fit v ≡ true) where
        fitting : left a ≡ v ∷ left (at up v)
        fitting = next_row ∙ ap (λ (xs : List ℕ). xs ++ left (at up v)) (only_one (fit v) v f)

        room : next < length d
        room = omega (arith, s.appends.many, parts, ap length fitting, h.room)

        pub climb_room : next < length out
        climb_room = omega (arith, room, climb_length)

        pub climb_yes : Climbed trees test floor start d written (set out next v) (next + 1)
            (at up v)
        climb_yes = record {
          met = s.met ++ (v ∷ []);
          low = omega (arith, climb_less, s.low);
          split =
              s.split
              ∙ ap (λ (xs : List ℕ). s.met ++ xs) fitting
              ∙ sym (append_snoc s.met v (left (at up v)));
          appends = appended_more v s.appends room;
        }
