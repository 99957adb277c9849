-- What one role reaches, row by row and range by range, on any axis: `any-..` say when a row is on the axis of one of
-- the contexts; `role-..` are the rows reached below a row; `cover-..` are the steps of a function that writes them,
-- ascending. Assumes nothing.
use mathlib.Core.Path.{◌≡◌, refl, sym, ap, ◌∙◌}
use mathlib.Core.Logic.{⊎_elim}
use mathlib.Core.Bool.{Bool, true, false, ◌&&◌, ◌||◌, or-true}
use mathlib.Core.List.{List, [], ◌∷◌, ◌++◌}
use Prim.Native.Nat.{ℕ, zero, suc, ◌+◌, ◌<◌, ◌≤◌}
use native.Mathlib.Nat.{le_of_suc-le-suc, not-suc-le-zero, eq-or-lt_of_le}
use native.Mathlib.Omega.{arith}
use lib.ListN.{length, length-append}
use Rattle.tree.specs.Search.{gather}
use Rattle.tree.specs.Table.{at}
use Rattle.tree.specs.Axis.{on_axis}
use Rattle.tree.proofs.SearchLaws.{gather_zero, gather_skip, gather_grows}
use Rattle.scan.specs.Want.{NodeTest, accepts}
use Rattle.scan.specs.OneRole.{Trees, any_on, one_role, Contexts, RoleIn, Wrote}
use Rattle.scan.specs.Range.{rows_in, Appended, RangeIn}
use Rattle.scan.proofs.WroteLaws.{wrote_as, wrote_none, wrote_length}
use Rattle.scan.proofs.AppendedLaws.{wrote_appended}
use Rattle.scan.proofs.ScanLaws.{rows_join, rows_same}

-- contexts do not fall, from a number to itself or a later one
pub contexts_rise : {cs : List ℕ} {n : ℕ} → Contexts cs n → (i j : ℕ) → i ≤ j → j < length cs → at cs i ≤ at cs j
contexts_rise {cs} h i j l m =
    ⊎_elim (λ (e : i ≡ j). let q = ap (at cs) e in omega arith) (λ k. h.rising i j k m) (eq-or-lt_of_le l)

-- ── on the axis of one of the contexts ──
module _ (axis : ℕ) (level : List ℕ) where
  -- one of the contexts has the row on its axis
  pub any_hit : (cs : List ℕ) (w i : ℕ) → i < length cs → on_axis axis level (at cs i) w ≡ true
      → any_on axis level cs w ≡ true
  unfolding any_on
  any_hit [] w i l e = absurd (not-suc-le-zero l)
  any_hit (c ∷ cs) w zero l e = ap (λ (b : Bool). b || any_on axis level cs w) e
  any_hit (c ∷ cs) w (suc i) l e =
      ap (λ (b : Bool). on_axis axis level c w || b) (any_hit cs w i (le_of_suc-le-suc l) e)
      ∙ or-true (on_axis axis level c w)

  -- none has
  pub any_miss : (cs : List ℕ) (w : ℕ) → ((i : ℕ) → i < length cs → on_axis axis level (at cs i) w ≡ false)
      → any_on axis level cs w ≡ false
  unfolding any_on
  any_miss [] w h = refl
  any_miss (c ∷ cs) w h =
      ap (λ (b : Bool). b || any_on axis level cs w) (h 0 (omega arith))
      ∙ any_miss cs w (λ i l. h (suc i) (omega arith))

-- ── the rows reached below a row ──
-- row w is reached
abbrev reached : ℕ → List ℕ → (ℕ → Bool) → List ℕ → ℕ → Bool
reached axis level test cs w = any_on axis level cs w && test w

module _ (axis : ℕ) (level : List ℕ) (test : ℕ → Bool) (cs : List ℕ) where
  pub role_none : one_role axis level 0 test cs ≡ []
  unfolding one_role
  role_none = gather_zero (reached axis level test cs)

  pub role_grows : (a b : ℕ) → a ≤ b → length (one_role axis level a test cs) ≤ length (one_role axis level b test cs)
  unfolding one_role
  role_grows = gather_grows (reached axis level test cs)

  -- rows on no context's axis add nothing
  pub role_skip : (a b : ℕ) → a ≤ b → ((w : ℕ) → a ≤ w → w < b → any_on axis level cs w ≡ false)
      → one_role axis level b test cs ≡ one_role axis level a test cs
  unfolding one_role
  role_skip a b l h =
      gather_skip (reached axis level test cs) a b l (λ w p q. ap (λ (x : Bool). x && test w) (h w p q))

  -- the rows from a on, and before b, are added, where f passes those of them that are on a context's axis
  pub role_part : (f : ℕ → Bool) (a b : ℕ) → a ≤ b → ((w : ℕ) → a ≤ w → w < b → any_on axis level cs w ≡ f w)
      → one_role axis level b test cs ≡ one_role axis level a test cs ++ rows_in (λ w. f w && test w) a b
  unfolding one_role
  role_part f a b l h =
      rows_join (reached axis level test cs) a b l
      ∙ ap (λ (xs : List ℕ). gather (reached axis level test cs) a ++ xs)
      (rows_same (reached axis level test cs) (λ w. f w && test w) a b
      (λ w p q. ap (λ (x : Bool). x && test w) (h w p q)))

-- ── writing them, ascending ──
-- the rows reached below pos are written, next is how many they are, and there is room for all
pub record Covered (axis : ℕ) (level : List ℕ) (n : ℕ) (test : ℕ → Bool) (cs d out : List ℕ) (next pos : ℕ)
    : Type 0 where
  pub room : length (one_role axis level n test cs) ≤ length d
  pub inside : pos ≤ n
  pub wrote : Wrote (one_role axis level pos test cs) d next out

module _ {axis n next pos : ℕ} {level cs d out : List ℕ} {test : ℕ → Bool}
    (s : Covered axis level n test cs d out next pos) where
  pub cover_length : length out ≡ length d
  cover_length = wrote_length s.wrote (omega (arith, s.room, role_grows axis level test cs pos n s.inside))

  -- past rows on no context's axis
  pub cover_skip : (to : ℕ) → pos ≤ to → to ≤ n → ((w : ℕ) → pos ≤ w → w < to → any_on axis level cs w ≡ false)
      → Covered axis level n test cs d out next to
  cover_skip to l m h = record {
    room = s.room;
    inside = m;
    wrote = wrote_as (sym (role_skip axis level test cs pos to l h)) s.wrote;
  }

  -- once no row is left
  pub cover_done : ((w : ℕ) → pos ≤ w → w < n → any_on axis level cs w ≡ false)
      → Wrote (one_role axis level n test cs) d next out
  cover_done h = wrote_as (sym (role_skip axis level test cs pos n s.inside h)) s.wrote

  module _ (to : ℕ) (l : pos ≤ to) (m : to ≤ n) (f : ℕ → Bool)
      (h : (w : ℕ) → pos ≤ w → w < to → any_on axis level cs w ≡ f w) where
    -- how many rows are reached below the end of a range of which f passes those on a context's axis
    counted : length (one_role axis level to test cs)
        ≡ length (one_role axis level pos test cs) + length (rows_in (λ w. f w && test w) pos to)
    counted =
        ap length (role_part axis level test cs f pos to l h)
        ∙ length-append (one_role axis level pos test cs) (rows_in (λ w. f w && test w) pos to)

    -- there is room for those of the range
    pub part_room : next + length (rows_in (λ w. f w && test w) pos to) ≤ length out
    part_room = omega (arith, s.wrote.many, cover_length, counted, s.room, role_grows axis level test cs to n m)

    -- once they are appended
    pub cover_part : {r : ℕ} {new : List ℕ} → Appended (rows_in (λ w. f w && test w) pos to) out next r new
        → Covered axis level n test cs d new r to
    cover_part a = record {
      room = s.room;
      inside = m;
      wrote = wrote_as (sym (role_part axis level test cs f pos to l h)) (wrote_appended s.wrote a);
    }

  -- a range that is all on a context's axis
  module _ (to : ℕ) (l : pos ≤ to) (m : to ≤ n)
      (h : (w : ℕ) → pos ≤ w → w < to → any_on axis level cs w ≡ true) where
    pub cover_room : next + length (rows_in test pos to) ≤ length out
    cover_room = part_room to l m (λ w. true) h

    pub cover_range : {r : ℕ} {new : List ℕ} → Appended (rows_in test pos to) out next r new
        → Covered axis level n test cs d new r to
    cover_range = cover_part to l m (λ w. true) h

module _ {axis : ℕ} {trees : Trees} {test : NodeTest} {cs d : List ℕ} (pre : RoleIn axis trees test cs d) where
  pub cover_start : Covered axis trees.level.now trees.count (accepts test) cs d d 0 0
  cover_start = record {
    room = pre.room;
    inside = omega arith;
    wrote = wrote_as (sym (role_none axis trees.level.now (accepts test) cs)) (wrote_none d);
  }

  -- what the scan of a range on a context's axis asks for
  pub cover_asks : {out : List ℕ} {next pos : ℕ}
      → Covered axis trees.level.now trees.count (accepts test) cs d out next pos
      → (to : ℕ) → pos ≤ to → to ≤ trees.count → ((w : ℕ) → pos ≤ w → w < to → any_on axis trees.level.now cs w ≡ true)
      → RangeIn test pos to out next
  cover_asks s to l m h = record {
    order = l;
    in_kind = omega (arith, pre.in_kind);
    in_name = omega (arith, pre.in_name);
    room = cover_room s to l m h;
  }
