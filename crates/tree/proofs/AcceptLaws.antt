-- When an edit is accepted, in plain words: `insert_passes`, `delete_passes`, `rename_passes`, `edit_passes`.
-- Tests that fail, `neither`, `neither_of`, `not_second`; a search that finds nothing, `none_below`; a key that is not
-- found, `no_key`; another root, `other_root_lem`, or none, `no_other_root`, `only_root`; a piece that may be inserted,
-- `piece_ok`; the last check of a chain, `next_next`. Assumes nothing.
use mathlib.Core.Path.{◌≡◌, refl, sym, ap, ◌∙◌}
use mathlib.Core.Logic.{inl, inr, ⊎_elim, ◌↔◌}
use mathlib.Core.Bool.{Bool, true, false, not, ◌&&◌, ◌||◌, true≢false}
use mathlib.Core.List.{List}
use Prim.Native.Nat.{ℕ, ◌+◌, ◌<◌, ◌≤◌}
use native.Mathlib.Omega.{arith}
use borrow.Author.Tests.{eqb-true, eqb-false, eq-eqb, ne_eqb, ltb-true, ltb-false, lt-ltb, le-ltb, leb-true, le-leb}
use borrow.Author.Tests.{not-true, not-false}
use lib.Dec.{eqb, ltb}
use Rattle.tree.specs.Search.{least, some_below}
use Rattle.tree.specs.Table.{Table, at, count_ok}
use Rattle.tree.specs.Sound.{row_of, has_name, first_bad}
use Rattle.tree.specs.Rules.{Sound}
use Rattle.tree.specs.Tree.{other_root}
use Rattle.tree.specs.EditRules.{NoKey, OtherRoot, InsertFits, DeleteFits, RenameFits, EditFits}
use Rattle.tree.specs.Refusal.{given_at, next, table_check, key_check, bad_piece, insert_check, delete_check}
use Rattle.tree.specs.Refusal.{rename_check, Checked, passed}
use Rattle.tree.specs.Outcome.{edit_check}
use Rattle.tree.proofs.SearchLaws.{least_below, least_none, least_passes, least_hit_le}
use Rattle.tree.proofs.SoundLaws.{table_passes, next_passed, given_passed, given_not, either, either_left}
use Rattle.tree.proofs.SoundLaws.{either_right, both, both_of, flip}
use Rattle.tree.proofs.TreeLaws.{less?}
use Rattle.tree.proofs.AxisLaws.{false_of}
use Rattle.std.specs.Prelude.{Ok, Err}

-- ── a chain of checks ──
-- the last of four, behind the first three as one
pub next_next : (x y z w : Checked) → next x (next y (next z w)) ≡ next (next x (next y z)) w
unfolding next
next_next (Err why) y z w = refl
next_next (Ok u) (Err why) z w = refl
next_next (Ok u) (Ok v) z w = refl

-- ── tests that fail ──
-- where a test of the one or the other fails, both fail
pub neither : (a b : Bool) → (a || b) ≡ false → (a ≡ false) × (b ≡ false)
neither true b e = absurd (true≢false e)
neither false b e = (refl, e)

-- and back
pub neither_of : {a b : Bool} → a ≡ false → b ≡ false → (a || b) ≡ false
neither_of {a} {b} p q = ap (λ (x : Bool). x || b) p ∙ q

-- where the one passes and not both, the other fails
pub not_second : {a b : Bool} → a ≡ true → (a && b) ≡ false → b ≡ false
not_second {a} {b} p e = sym (ap (λ (x : Bool). x && b) p) ∙ e

-- a search comes to its end exactly if nothing passes
pub none_below : (f : ℕ → Bool) (n : ℕ) → (ltb (least f n) n ≡ false) ↔ ((i : ℕ) → i < n → f i ≡ false)
none_below f n = (
  λ e i l. let z : n ≤ least f n = ltb-false _ _ e in least_below f n i (omega arith),
  λ h. let z : least f n ≡ n = least_none f n h in le-ltb (least f n) n (omega arith),
)

-- a key is not found exactly if no row in use has it
pub no_key : (t : Table) (x : ℕ) → (ltb (row_of t.key t.count x) t.count ≡ false) ↔ NoKey t x
unfolding row_of
no_key t x = (
  λ e j l. eqb-false _ _ ((none_below (λ k. eqb (at t.key k) x) t.count).0 e j l),
  λ h. (none_below (λ k. eqb (at t.key k) x) t.count).1 (λ j l. ne_eqb _ _ (h j l)),
)

-- ── another root ──
-- the search finds one
pub other_root_lem : (level : List ℕ) (n r : ℕ) → (other_root level n r ≡ true) ↔ OtherRoot level n r
unfolding other_root some_below
other_root_lem level n r = (there, back)
  where
    top : ℕ → Bool
    top i = eqb (at level i) 0 && not (eqb i r)

    there : other_root level n r ≡ true → OtherRoot level n r
    there e =
        let l : least top n < n = ltb-true _ _ e in
        let a = both (eqb (at level (least top n)) 0) _ (least_passes top n l) in
        record {
          row = least top n;
          inside = l;
          top = eqb-true _ _ a.0;
          unlike = eqb-false _ _ (not-true _ a.1);
        }

    back : OtherRoot level n r → other_root level n r ≡ true
    back h =
        let i = h.inside in
        lt-ltb (least top n) n (omega (
          arith,
          least_hit_le top n h.row (both_of (eq-eqb _ _ h.top) (flip (ne_eqb _ _ h.unlike))),
        ))

-- it finds none exactly if there is none
pub no_other_root : (level : List ℕ) (n r : ℕ) → (other_root level n r ≡ false) ↔ (OtherRoot level n r → ⊥)
no_other_root level n r = (
  λ e h. true≢false (sym ((other_root_lem level n r).1 h) ∙ e),
  λ h. false_of (other_root level n r) (λ e. h ((other_root_lem level n r).0 e)),
)

-- where row 0 is the only root, every later row is inside
pub only_root : (level : List ℕ) (n : ℕ) → (OtherRoot level n 0 → ⊥) → (i : ℕ) → i < n → 0 < i → 1 ≤ at level i
only_root level n h i l p = ⊎_elim (λ (x : 0 < at level i). x)
    (λ (x : at level i ≤ 0). absurd (h (record { row = i; inside = l; top = omega arith; unlike = λ e. omega arith })))
    (less? 0 (at level i))

-- ── an insertion ──
-- refusal 10
pub record PieceFits (p : Table) : Type 0 where
  pub piece : Sound p
  pub root : at p.kind 0 ≡ 0 → ⊥
  pub one : OtherRoot p.level p.count 0 → ⊥

pub piece_ok : (p : Table) → (bad_piece p ≡ false) ↔ PieceFits p
unfolding bad_piece table_check
piece_ok p = (
  λ e. let c = neither (not (count_ok p) || ltb (first_bad p) p.count || eqb (at p.kind 0) 0) _ e in
      let a = neither (not (count_ok p) || ltb (first_bad p) p.count) _ c.0 in
      let b = neither (not (count_ok p)) _ a.0 in
      record {
        piece = (table_passes p).0 ((next_passed _ _).1 (given_not _ b.0, given_not _ b.1));
        root = eqb-false _ _ a.1;
        one = (no_other_root p.level p.count 0).0 c.1;
      },
  λ h. let a = (next_passed _ _).0 ((table_passes p).1 h.piece) in
      neither_of
      (neither_of (neither_of (given_passed _ _ a.0) (given_passed _ _ a.1)) (ne_eqb _ _ h.root))
      ((no_other_root p.level p.count 0).1 h.one),
)

-- its own check passes exactly if refusals 10 to 14 do not apply
pub insert_passes : (t : Table) (r : ℕ) (p : Table) → (insert_check t r p ≡ passed) ↔ InsertFits t r p
unfolding insert_check given_at some_below
insert_passes t r p = (there, back)
  where
    too_deep_lem : ℕ → Bool
    too_deep_lem i = ltb 63 (at p.level i + (at t.level r + 1))

    taken : ℕ → Bool
    taken i = ltb (row_of t.key t.count (at p.key i)) t.count

    there : insert_check t r p ≡ passed → InsertFits t r p
    there e =
        let a = (next_passed _ _).0 e in
        let b = (next_passed _ _).0 a.1 in
        let c = (next_passed _ _).0 b.1 in
        let d = (next_passed _ _).0 c.1 in
        let o = (piece_ok p).0 (given_passed _ _ a.0) in
        let m = neither _ _ (given_passed _ _ d.1) in
        record {
          piece = o.piece;
          root = o.root;
          one = o.one;
          parent = leb-true _ _ (not-false _ (given_passed _ _ b.0));
          low = λ i l. ltb-false _ _ ((none_below too_deep_lem p.count).0 (given_passed _ _ c.0) i l);
          fresh = λ i l. (no_key t (at p.key i)).0
              ((none_below taken p.count).0 (given_passed _ _ d.0) i l);
          few = ltb-false _ _ m.0;
          room = ltb-false _ _ m.1;
        }

    back : InsertFits t r p → insert_check t r p ≡ passed
    back h =
        (next_passed _ _).1 (
          given_not _ ((piece_ok p).1 (record { piece = h.piece; root = h.root; one = h.one })),
          (next_passed _ _).1 (
            given_not _ (ap not (le-leb _ _ h.parent)),
            (next_passed _ _).1 (
              given_not _ ((none_below too_deep_lem p.count).1 (λ i l. le-ltb _ _ (h.low i l))),
              (next_passed _ _).1 (
                given_not _
                    ((none_below taken p.count).1 (λ i l. (no_key t (at p.key i)).1 (h.fresh i l))),
                given_not _ (neither_of (le-ltb _ _ h.few) (le-ltb _ _ h.room)),
              ),
            ),
          ),
        )

-- ── a deletion ──
-- its own check, refusal 15, passes exactly if the row is not the only root
pub delete_passes : (t : Table) (r : ℕ) → (delete_check t r ≡ passed) ↔ DeleteFits t r
unfolding delete_check
delete_passes t r = (
  λ e. record {
    remains = λ z. (other_root_lem t.level t.count r).0
        (not-false _ (not_second (eq-eqb (at t.level r) 0 z) (given_passed _ _ e)));
  },
  λ h. given_not _ (go (eqb (at t.level r) 0) refl h),
)
  where
    go : (b : Bool) → eqb (at t.level r) 0 ≡ b → DeleteFits t r
        → (b && not (other_root t.level t.count r)) ≡ false
    go true p h = ap not ((other_root_lem t.level t.count r).1 (h.remains (eqb-true _ _ p)))
    go false p h = refl

-- ── a renaming ──
-- its own check passes exactly if refusal 16 does not apply
pub rename_passes : (t : Table) (r m : ℕ) → (rename_check t r m ≡ passed) ↔ RenameFits (at t.kind r) m
unfolding rename_check has_name
rename_passes t r m = (
  λ e. let a = neither _ _ (given_passed _ _ e) in
      record {
        named = ⊎_elim (λ p. inl (eqb-true _ _ p)) (λ p. inr (eqb-true _ _ p)) (either _ _ (not-false _ a.0));
        nonzero = eqb-false _ _ a.1;
      },
  λ h. let n : (eqb (at t.kind r) 1 || eqb (at t.kind r) 4) ≡ true =
      ⊎_elim (λ p. either_left _ (eq-eqb _ _ p)) (λ p. either_right (eqb (at t.kind r) 1) (eq-eqb _ _ p))
      h.named in
      given_not _ (neither_of (ap not n) (ne_eqb _ _ h.nonzero)),
)

-- ── all three ──
-- the whole check passes exactly if refusals 1, 2 and 9 do not apply and the edit's own check passes
pub edit_passes : (t : Table) (k : ℕ) (own : Checked) → (edit_check t k own ≡ passed) ↔ EditFits t k own
unfolding edit_check key_check
edit_passes t k own = (
  λ e. let a = (next_passed _ _).0 e in
      let b = (next_passed _ _).0 a.1 in
      record {
        sound = (table_passes t).0 a.0;
        found = ltb-true _ _ (not-false _ (given_passed _ _ b.0));
        passes = b.1;
      },
  λ h. (next_passed _ _).1 (
    (table_passes t).1 h.sound,
    (next_passed _ _).1 (given_not _ (ap not (lt-ltb _ _ h.found)), h.passes),
  ),
)
