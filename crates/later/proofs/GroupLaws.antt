-- The later siblings of the contexts of one role, group by group. How far the contexts of a group reach: `reach-..`.
-- Contexts whose rows lie apart: `role_apart`. A turn of the function that writes them: `group_start`, `group_some`,
-- `group_asks`, `group_sum`, `group_turn`, `group_done`, `group_length`. Assumes nothing.
use Prim.Native.Nat.{ℕ, zero, suc, ◌+◌, ◌-◌, ◌<◌, ◌≤◌}
use mathlib.Core.Path.{◌≡◌, refl, sym, ap, ap₂, ◌∙◌}
use mathlib.Core.Logic.{⊎_elim}
use mathlib.Core.Bool.{Bool, true, false, ◌&&◌, ◌||◌, or-false}
use mathlib.Core.List.{List, [], ◌++◌, append-nil, append_assoc}
use native.Mathlib.Nat.{eq-or-lt_of_le}
use native.Mathlib.Omega.{arith}
use borrow.Rule.Slice.PartMut.{mid_of, put_mid}
use lib.ListN.{length, take, drop, length-append, length-take, length-drop, take-append-drop}
use lib.Seq.{get_or-take, get_or-drop, drop-drop, drop-length}
use Rattle.tree.specs.Table.{at}
use Rattle.tree.specs.Search.{gather}
use Rattle.tree.specs.Tree.{parent}
use Rattle.tree.specs.Axis.{on_axis}
use Rattle.tree.proofs.TreeLaws.{parent_below}
use Rattle.tree.proofs.SearchLaws.{gather_zero, gather_skip, gather_ext}
use Rattle.tree.proofs.SoundLaws.{shape_fits}
use Rattle.tree.proofs.AxisLaws.{false_of}
use Rattle.scan.specs.Want.{accepts}
use Rattle.scan.specs.Range.{rows_in, PastTree}
use Rattle.scan.specs.OneRole.{any_on, one_role, reached, RoleIn, Wrote}
use Rattle.scan.proofs.WroteLaws.{wrote_as, wrote_none, wrote_length, wrote_part}
use Rattle.scan.proofs.ScanLaws.{rows_join, rows_same, part_length}
use Rattle.scan.proofs.RangeLaws.{contexts_rise, any_miss}
use Rattle.scan.proofs.SideLaws.{nests}
use Rattle.later.specs.Later.{LaterEnd}
use Rattle.marks.proofs.MarkLaws.{any_append}
use Rattle.tree.proofs.SubtreeLaws.{child_within}
use Rattle.marks.proofs.ChildWalkLaws.{in_parent}
use Rattle.marks.proofs.SiblingLaws.{later_on}
use Rattle.marks.proofs.LaterLaws.{later_parent}
use Rattle.scan.specs.declared.trees.Trees.{Trees}
use Rattle.scan.specs.declared.want.NodeTest.{NodeTest}

-- ── how far contexts reach ──
module _ {trees : Trees} {c e : ℕ} (here : c < trees.count) (h : LaterEnd trees c e) where
  -- the end is after the context, and not past the rows in use
  pub reach_end : (c < e) × (e ≤ trees.count)
  reach_end = go (parent trees.level.now c) refl
    where
      go : (q : ℕ) → parent trees.level.now c ≡ q → (c < e) × (e ≤ trees.count)
      go zero z = (omega (arith, h.root z), omega (arith, h.root z))
      go (suc p) z = (
        omega (arith, h.child p z, child_within trees.shape p c here z),
        omega (arith, h.child p z, shape_fits trees.shape p (later_parent trees.shape c p here z)),
      )

  -- a context before the end reaches nothing from the end on
  pub reach_before : (d w : ℕ) → c ≤ d → d < e → w < trees.count → on_axis 10 trees.level.now d w ≡ true → w < e
  reach_before d w a b l t = go (parent trees.level.now c) refl (parent trees.level.now d) refl
    where
      -- the parent of d is that of c, or below it
      go : (q : ℕ) → parent trees.level.now c ≡ q → (r : ℕ) → parent trees.level.now d ≡ r → w < e
      go q z zero y = absurd (omega (arith, (later_on trees.level.now d w t).0.some))
      go zero z (suc r) y =
          let x : d ≡ c = omega (arith, h.root z) in
          let v = ap (parent trees.level.now) x in
          absurd (omega arith)
      go (suc p) z (suc r) y =
          let x = h.child p z in
          let o = parent_below trees.level.now c p z in
          let i : w ≤ r + at trees.size.now r =
          child_within trees.shape r w l ((later_on trees.level.now d w t).0.same ∙ y) in
          let pn : p < trees.count = later_parent trees.shape c p here z in
          let f : r < d = parent_below trees.level.now d r y in
          let u : p ≤ r = omega (arith, in_parent trees.shape p d pn (omega arith) (omega arith)) in
          ⊎_elim
          (λ (v : p ≡ r). let k = ap (at trees.size.now) v in omega arith)
          (λ (v : p < r). omega (arith, (nests trees.shape).within p r pn v (omega arith)))
          (eq-or-lt_of_le u)

-- ── rows that lie apart ──
-- those that pass f, all below m, and then those that pass g, none below m
gather_apart : (f g h : ℕ → Bool) (m n : ℕ) → m ≤ n
    → ((w : ℕ) → w < m → (h w ≡ f w) × (g w ≡ false)) → ((w : ℕ) → m ≤ w → w < n → (h w ≡ g w) × (f w ≡ false))
    → gather h n ≡ gather f n ++ gather g n
gather_apart f g h m n l low high =
    rows_join h m n l
    ∙ ap₂ ◌++◌
    (gather_ext h f m (λ w x. (low w x).0) ∙ sym (gather_skip f m n l (λ w x y. (high w x y).1)))
    (rows_same h g m n (λ w x y. (high w x y).0)
    ∙ sym (rows_join g m n l ∙ ap (λ (xs : List ℕ). xs ++ rows_in g m n) none))
  where
    none : gather g m ≡ []
    none = gather_skip g 0 m (omega arith) (λ w x y. (low w y).1) ∙ gather_zero g

-- what contexts reach together, where the first reach nothing from row m on and the others nothing below it
pub role_apart : (axis : ℕ) (level : List ℕ) (n : ℕ) (test : ℕ → Bool) (xs ys : List ℕ) (m : ℕ) → m ≤ n
    → ((w : ℕ) → m ≤ w → w < n → any_on axis level xs w ≡ false) → ((w : ℕ) → w < m → any_on axis level ys w ≡ false)
    → one_role axis level n test (xs ++ ys) ≡ one_role axis level n test xs ++ one_role axis level n test ys
unfolding one_role
role_apart axis level n test xs ys m l first others = gather_apart _ _ _ m n l
    (λ w x. (
      ap (λ (b : Bool). b && test w)
          (any_append axis level xs ys w ∙ ap (λ (b : Bool). any_on axis level xs w || b) (others w x)
          ∙ or-false (any_on axis level xs w)),
      ap (λ (b : Bool). b && test w) (others w x),
    ))
    (λ w x y. (
      ap (λ (b : Bool). b && test w)
          (any_append axis level xs ys w ∙ ap (λ (b : Bool). b || any_on axis level ys w) (first w x y)),
      ap (λ (b : Bool). b && test w) (first w x y),
    ))

-- no context reaches nothing
role_nobody : (axis : ℕ) (level : List ℕ) (n : ℕ) (test : ℕ → Bool) → one_role axis level n test [] ≡ []
unfolding one_role
role_nobody axis level n test =
    gather_skip (λ w. any_on axis level [] w && test w) 0 n (omega arith)
    (λ w x y. ap (λ (b : Bool). b && test w) (any_miss axis level [] w (λ i l. absurd (omega arith))))
    ∙ gather_zero (λ w. any_on axis level [] w && test w)

-- ── a turn ──
-- the rows of the contexts before number i are written, and those of the others come after them
pub record Grouped (trees : Trees) (test : NodeTest) (cs d out : List ℕ) (next i : ℕ) : Type 0 where
  pub few : i ≤ length cs
  pub rows : List ℕ
  pub split : reached 10 trees test cs ≡ rows ++ reached 10 trees test (drop i cs)
  pub wrote : Wrote rows d next out

module _ {trees : Trees} {test : NodeTest} {cs d : List ℕ} (pre : RoleIn 10 trees test cs d) where
  abbrev Rows : List ℕ → List ℕ
  Rows = reached 10 trees test

  -- no group is written yet
  pub group_start : Grouped trees test cs d d 0 0
  group_start = record { few = omega arith; rows = []; split = refl; wrote = wrote_none d }

  module _ {out : List ℕ} {next i : ℕ} (s : Grouped trees test cs d out next i) where
    -- there is room for what is written and what is to come
    both_fit : next + length (Rows (drop i cs)) ≤ length d
    both_fit = omega (arith, pre.room, s.wrote.many, simp length-append at (ap length s.split))

    pub group_length : length out ≡ length d
    group_length = wrote_length s.wrote (omega (arith, both_fit, s.wrote.many))

    -- no context is left
    pub group_done : length cs ≤ i → Wrote (reached 10 trees test cs) d next out
    group_done l =
        let e : i ≡ length cs = omega (arith, s.few) in
        let none : drop i cs ≡ [] = ap (λ (k : ℕ). drop k cs) e ∙ drop-length cs in
        wrote_as (sym (s.split
        ∙ ap (λ (xs : List ℕ). s.rows ++ xs) (ap Rows none ∙ role_nobody 10 trees.level.now trees.count (accepts test))
        ∙ append-nil s.rows)) s.wrote

    module _ (m : i < length cs) {e j : ℕ} (h : LaterEnd trees (at cs i) e) (q : PastTree cs i e j) where
      -- the contexts of the group
      abbrev mine : List ℕ
      mine = take (j - i) (drop i cs)

      mine_at : (k : ℕ) → k < j - i → at mine k ≡ at cs (i + k)
      mine_at k l = rw (get_or-take, get_or-drop)

      mine_length : length mine ≡ j - i
      mine_length = part_length cs i j q.to

      here : at cs i < trees.count
      here = pre.contexts.inside i m

      -- the number moves on
      pub group_less : i < j
      group_less = ⊎_elim
          (λ (x : i ≡ j).
          let y = ap (at cs) x in
          absurd (omega (arith, q.after (omega arith), (reach_end here h).0)))
          (λ (x : i < j). x) (eq-or-lt_of_le q.from)

      pub group_some : 0 < length mine
      group_some = omega (arith, mine_length, group_less)

      -- they and the contexts after them
      cut : drop i cs ≡ mine ++ drop j cs
      cut =
          let f : i + (j - i) ≡ j = omega (arith, q.from) in
          sym (take-append-drop (j - i) (drop i cs))
          ∙ ap (λ (xs : List ℕ). mine ++ xs) (drop-drop (j - i) i cs ∙ ap (λ (k : ℕ). drop k cs) f)

      low : (w : ℕ) → e ≤ w → w < trees.count → any_on 10 trees.level.now mine w ≡ false
      low w x y = any_miss 10 trees.level.now mine w (λ k l.
          let b : k < j - i = omega (arith, mine_length) in
          ap (λ (z : ℕ). on_axis 10 trees.level.now z w) (mine_at k b)
          ∙ false_of (on_axis 10 trees.level.now (at cs (i + k)) w) (λ t.
          let u = reach_before here h (at cs (i + k)) w
          (contexts_rise pre.contexts i (i + k) (omega arith) (omega (arith, q.to)))
          (q.before (i + k) (omega arith) (omega arith)) y t in
          omega arith))

      high : (w : ℕ) → w < e → any_on 10 trees.level.now (drop j cs) w ≡ false
      high w x = any_miss 10 trees.level.now (drop j cs) w (λ k l.
          let b : j + k < length cs = omega (arith, length-drop j cs) in
          ap (λ (z : ℕ). on_axis 10 trees.level.now z w) (get_or-drop j cs k 0)
          ∙ false_of (on_axis 10 trees.level.now (at cs (j + k)) w) (λ t.
          omega (
            arith,
            (later_on trees.level.now (at cs (j + k)) w t).1,
            q.after (omega arith),
            contexts_rise pre.contexts j (j + k) (omega arith) b,
          )))

      apart : Rows (drop i cs) ≡ Rows mine ++ Rows (drop j cs)
      apart = ap Rows cut
          ∙ role_apart 10 trees.level.now trees.count (accepts test) mine (drop j cs) e (reach_end here h).1 low high

      -- there is room for the group's rows
      fit : next + length (Rows mine) ≤ length d
      fit = omega (arith, both_fit, simp length-append at (ap length apart))

      pub group_asks : RoleIn 10 trees test mine (mid_of next (length out - next) out)
      group_asks = record {
        contexts = record {
          rising = λ x y l k.
              let b : y < j - i = omega (arith, mine_length) in
              omega (
                arith,
                mine_at x (omega arith),
                mine_at y b,
                pre.contexts.rising (i + x) (i + y) (omega arith) (omega (arith, q.to)),
              );
          inside = λ x l.
              let b : x < j - i = omega (arith, mine_length) in
              omega (arith, mine_at x b, pre.contexts.inside (i + x) (omega (arith, q.to)));
        };
        in_kind = pre.in_kind;
        in_name = pre.in_name;
        room = simp (length-take, length-drop) (omega (arith, group_length, fit));
      }

      -- they are written
      module _ {k : ℕ} {part : List ℕ} (t : Wrote (Rows mine) (mid_of next (length out - next) out) k part) where
        pub group_sum : next + k ≤ length d
        group_sum = omega (arith, t.many, fit)

        pub group_turn : Grouped trees test cs d (put_mid next (length out - next) out part)
            (next + k) j
        group_turn = record {
          few = q.to;
          rows = s.rows ++ Rows mine;
          split = s.split ∙ ap (λ (xs : List ℕ). s.rows ++ xs) apart
              ∙ sym (append_assoc s.rows (Rows mine) (Rows (drop j cs)));
          wrote = wrote_part s.wrote t;
        }
