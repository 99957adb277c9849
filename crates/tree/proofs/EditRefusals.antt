-- Refusals 10 to 16, of the edits by key. Before them: a refusal of an edit's own check, `by_key_lem`; what the tests
-- of a piece say, `bad_iff`, `taken_iff`. Insertion: `piece_refused`, `parent_refused`, `deep_refused`,
-- `taken_refused`, `full_refused`; deletion: `root_refused`; renaming: `name_refused`. Each names the row r that has
-- the key, so that 1, 2 and 9 do not apply, and says that no other lower number applies, then its own condition, then
-- the place where the reason has one. Assumes nothing.
use mathlib.Core.Path.{◌≡◌, refl, sym, ap, subst, ◌∙◌}
use mathlib.Core.Logic.Iff
use mathlib.Core.Logic.{◌↔◌}
use mathlib.Core.Bool.{true, false, not, ◌||◌}
use mathlib.Core.List.{[], ◌∷◌}
use Prim.Native.Nat.{ℕ, ◌+◌, ◌<◌, ◌≤◌}
use lib.Dec.{ltb, leb}
use Rattle.tree.specs.Search.{some_below}
use Rattle.tree.specs.Table.{Table, at, count_ok}
use Rattle.tree.specs.Sound.{row_of, has_name, first_bad}
use Rattle.tree.specs.Rules.{Sound}
use Rattle.tree.specs.Refusal.{given, next, table_check, key_check, bad_piece, insert_check, delete_check}
use Rattle.tree.specs.Refusal.{rename_check, Checked, passed}
use Rattle.tree.specs.Request.{Request, insert, delete, rename, table_in, refusal}
use Rattle.tree.specs.RefusalRules.{Least, Some, None, KeyRow, BadPiece, TooDeep, Taken, Full, OnlyRoot, NoName}
use Rattle.tree.proofs.SoundLaws.{table_passes, next_passed, given_passed, given_not, find_at}
use Rattle.tree.proofs.AcceptLaws.{neither, neither_of, other_root_lem}
use Rattle.tree.proofs.EditLaws.{row_key}
use Rattle.tree.proofs.CheckLaws.{lt_iff, le_iff, eq_iff, above_iff, fails_iff, passes_iff, not_iff}
use Rattle.tree.proofs.CheckLaws.{not_passes_iff, not_fails_iff, or_iff, and_iff, some_iff, none_iff}
use Rattle.tree.proofs.CheckLaws.{given_when, given_there, given_unless, least_when, least_unless, has, given_numbers}
use Rattle.tree.proofs.CheckLaws.{least_numbers, next_numbers, stop, skip, same_refusal}
use Rattle.tree.proofs.CheckLaws.{flat_three, flat_four, flat_five}
use Rattle.tree.proofs.TableRefusals.{later_check, key_gives, after_table}
use Rattle.std.specs.Prelude.{Err}
use Rattle.tree.specs.declared.Refusal.{Refusal}
use Rattle.tree.specs.declared.Refusal.TheVariants as because
use Rattle.tree.specs.Number.{number}

-- ── the row of the key ──
-- what is said of the row that a search finds is said of the row that has the key
row_of_lem : (t : Table) (k : ℕ) {Y : ℕ → Type 0}
    → (Sound t × ((row_of t.key t.count k < t.count) × Y (row_of t.key t.count k)))
    ↔ ((r : ℕ) × KeyRow t k r × Y r)
row_of_lem t k {Y} = (
  λ (s, (l, y)). (row_of t.key t.count k, record { sound = s; inside = l; key = row_key t k l }, y),
  λ (r, h, y). let z : r ≡ row_of t.key t.count k =
      sym (ap (row_of t.key t.count) (sym h.key) ∙ find_at t h.sound r h.inside) in
      (h.sound, (subst (λ (i : ℕ). i < t.count) z h.inside, subst Y z y)),
)

-- a refusal of an edit's own check
by_key_lem : (c : Request) (k : ℕ) (why : Refusal) (own : ℕ → Checked) {Y : ℕ → Type 0}
    → later_check c ≡ next (key_check (table_in c) k) (own (row_of (table_in c).key (table_in c).count k))
    → has (number why) (1 ∷ 2 ∷ []) ≡ false → has (number why) (9 ∷ []) ≡ false → ((r : ℕ) → (own r ≡ Err why) ↔ Y r)
    → (refusal c ≡ Err why) ↔ ((r : ℕ) × KeyRow (table_in c) k r × Y r)
unfolding key_check
by_key_lem c k why own z o u h =
    Iff.trans
    (after_table c why o (same_refusal z (skip (key_gives (table_in c) k) u
    (given_unless _ (not_fails_iff (lt_iff _ _))) (h _))))
    (row_of_lem (table_in c) k)

-- ── the tests of a piece ──
-- it would get refusal 1 or 2
unsound_iff : (piece : Table)
    → ((not (count_ok piece) || ltb (first_bad piece) piece.count) ≡ true) ↔ (Sound piece → ⊥)
unfolding table_check
unsound_iff piece = passes_iff (
  λ e. let b = neither (not (count_ok piece)) _ e in
      (table_passes piece).0 ((next_passed _ _).1 (given_not _ b.0, given_not _ b.1)),
  λ s. let a = (next_passed _ _).0 ((table_passes piece).1 s) in
      neither_of (given_passed _ _ a.0) (given_passed _ _ a.1),
)

-- or its row 0 is a document, or it has several trees
pub bad_iff : (piece : Table) → (bad_piece piece ≡ true) ↔ BadPiece piece
unfolding bad_piece
bad_iff piece = or_iff (or_iff (unsound_iff piece) (eq_iff _ _)) (other_root_lem piece.level piece.count 0)

-- the key of its row i is in the table
pub taken_iff : (t piece : Table) (i : ℕ)
    → (ltb (row_of t.key t.count (at piece.key i)) t.count ≡ true) ↔ Taken t piece i
unfolding row_of
taken_iff t piece i = some_iff _ _ (λ j. eq_iff (at t.key j) (at piece.key i))

-- ── insertion ──
module _ (t : Table) (k : ℕ) (piece : Table) where
  -- 10, 11, 12 do not apply
  good : (given (bad_piece piece) because.BadPiece ≡ passed) ↔ (BadPiece piece → ⊥)
  good = given_unless _ (fails_iff (bad_iff piece))

  holds : (r : ℕ) → (given (not (leb (at t.kind r) 1)) (because.NotAParent r) ≡ passed) ↔ (at t.kind r ≤ 1)
  holds r = given_unless _ (not_fails_iff (le_iff _ _))

  shallow : (r : ℕ)
      → (given (some_below (λ i. ltb 63 (at piece.level i + (at t.level r + 1))) piece.count) because.TooDeep
      ≡ passed)
      ↔ None (TooDeep t r piece) piece.count
  unfolding some_below
  shallow r = given_unless _ (none_iff _ _ (λ i. lt_iff _ _))

  -- 10: the piece would get refusal 1 or 2, or its row 0 is a document (02: or it has several trees)
  pub piece_refused : (refusal (insert t k piece) ≡ Err because.BadPiece)
      ↔ ((r : ℕ) × KeyRow t k r × BadPiece piece)
  unfolding insert_check
  piece_refused =
      by_key_lem _ k _ (λ r. insert_check t r piece) refl refl refl (λ r.
      stop (next_numbers (given_numbers _ _) (next_numbers (given_numbers _ _)
      (next_numbers (least_numbers _ _ because.KeyTaken) (given_numbers _ _)))) refl
      (given_when (bad_iff piece)))

  -- 11: the parent's kind is neither 0 nor 1; its row
  pub parent_refused : (p : ℕ) → (refusal (insert t k piece) ≡ Err (because.NotAParent p))
      ↔ ((r : ℕ) × KeyRow t k r × ((BadPiece piece → ⊥) × (1 < at t.kind r) × (p ≡ r)))
  unfolding insert_check
  parent_refused p =
      by_key_lem _ k _ (λ r. insert_check t r piece) refl refl refl (λ r.
      flat_three (skip (given_numbers _ _) refl good
      (stop (next_numbers (given_numbers _ _)
      (next_numbers (least_numbers _ _ because.KeyTaken) (given_numbers _ _))) refl
      (given_there because.NotAParent r p (λ i j e. cc) (not_passes_iff (above_iff _ _))))))

  -- 12: an inserted level would exceed 63
  pub deep_refused : (refusal (insert t k piece) ≡ Err because.TooDeep)
      ↔ ((r : ℕ) × KeyRow t k r
      × ((BadPiece piece → ⊥) × (at t.kind r ≤ 1) × Some (TooDeep t r piece) piece.count))
  unfolding insert_check some_below
  deep_refused =
      by_key_lem _ k _ (λ r. insert_check t r piece) refl refl refl (λ r.
      flat_three (skip (given_numbers _ _) refl good
      (skip (given_numbers _ _) refl (holds r)
      (stop (next_numbers (least_numbers _ _ because.KeyTaken) (given_numbers _ _)) refl
      (given_when (some_iff _ _ (λ i. lt_iff _ _)))))))

  -- 13: a piece's key is in the table; the least such piece row
  pub taken_refused : (p : ℕ) → (refusal (insert t k piece) ≡ Err (because.KeyTaken p))
      ↔ ((r : ℕ) × KeyRow t k r
      × ((BadPiece piece → ⊥) × (at t.kind r ≤ 1) × None (TooDeep t r piece) piece.count
      × Least (Taken t piece) piece.count p))
  unfolding insert_check some_below
  taken_refused p =
      by_key_lem _ k _ (λ r. insert_check t r piece) refl refl refl (λ r.
      flat_four (skip (given_numbers _ _) refl good
      (skip (given_numbers _ _) refl (holds r)
      (skip (given_numbers _ _) refl (shallow r)
      (stop (given_numbers _ _) refl (least_when _ _ because.KeyTaken (taken_iff t piece) (λ i j e. cc) p))))))

  -- 14: the new count would exceed 4,096 or the shortest table column
  pub full_refused : (refusal (insert t k piece) ≡ Err because.NoRoom)
      ↔ ((r : ℕ) × KeyRow t k r
      × ((BadPiece piece → ⊥) × (at t.kind r ≤ 1) × None (TooDeep t r piece) piece.count
      × None (Taken t piece) piece.count × Full t piece))
  unfolding insert_check some_below
  full_refused =
      by_key_lem _ k _ (λ r. insert_check t r piece) refl refl refl (λ r.
      flat_five (skip (given_numbers _ _) refl good
      (skip (given_numbers _ _) refl (holds r)
      (skip (given_numbers _ _) refl (shallow r)
      (skip (least_numbers _ _ because.KeyTaken) refl (least_unless _ _ because.KeyTaken (taken_iff t piece))
      (given_when (or_iff (lt_iff _ _) (lt_iff _ _))))))))

-- ── deletion ──
-- 15: the row to delete is row 0 (02: the only root)
pub root_refused : (t : Table) (k : ℕ)
    → (refusal (delete t k) ≡ Err because.DeletesRoot) ↔ ((r : ℕ) × KeyRow t k r × OnlyRoot t r)
unfolding delete_check
root_refused t k =
    by_key_lem _ k _ (λ r. delete_check t r) refl refl refl (λ r.
    given_when (and_iff (eq_iff _ _) (not_iff (other_root_lem t.level t.count r))))

-- ── renaming ──
-- 16: the row to rename is not of kind 1 or 4, or the new name is 0; its row
pub name_refused : (t : Table) (k m p : ℕ)
    → (refusal (rename t k m) ≡ Err (because.BadRename p)) ↔ ((r : ℕ) × KeyRow t k r × (NoName t r m × (p ≡ r)))
unfolding rename_check has_name
name_refused t k m p =
    by_key_lem _ k _ (λ r. rename_check t r m) refl refl refl (λ r.
    given_there because.BadRename r p (λ i j e. cc) (or_iff (not_iff (or_iff (eq_iff _ _) (eq_iff _ _))) (eq_iff _ _)))
