-- The checks of an insertion, in their order. Of a search: `some_at`, `some_none`. Of the piece alone:
-- `piece_refused`, `piece_passed`, `piece_rows`, `piece_sound`. Of the piece under the row, a law for each answer:
-- `refused_bad`, `refused_parent`, `refused_deep`, `refused_taken`, `refused_full`, `passed_all`, and all six as
-- `answers`. Assumes nothing.
use mathlib.Core.Path.{◌≡◌, refl, sym, ap, ap₂, ◌∙◌}
use mathlib.Core.Logic.{inl}
use mathlib.Core.Bool.{Bool, true, false, not, ◌||◌, true≢false}
use Prim.Native.Nat.{ℕ, ◌+◌, ◌<◌, ◌≤◌}
use native.Mathlib.Omega.{arith}
use borrow.Author.Tests.{lt-ltb, le-ltb, lt-leb, le-leb}
use lib.Dec.{eqb, ltb, leb}
use lib.ListN.{length}
use Rattle.tree.specs.Search.{least, some_below}
use Rattle.tree.specs.Table.{Table, at, shortest, count_ok}
use Rattle.tree.specs.Sound.{row_of, first_bad}
use Rattle.tree.specs.Tree.{other_root}
use Rattle.tree.specs.Rules.{Sound}
use Rattle.tree.specs.Refusal.{given, given_at, next, table_check, bad_piece, insert_check, Checked, passed}
use Rattle.tree.specs.Outcome.{check_outcome}
use Rattle.tree.proofs.SearchLaws.{least_hit_le}
use Rattle.tree.proofs.SoundLaws.{table_passes, next_passed, next_first, given_passed, given_not, sound_shape}
use Rattle.tree.proofs.FindLaws.{given_refused}
use Rattle.tree.proofs.RootLaws.{tree_fits}
use Rattle.tree.proofs.LastRootLaws.{several_is}
use Rattle.tree.proofs.AcceptLaws.{neither, neither_of, none_below}
use Rattle.std.specs.Prelude.{is_err, Ok, Err}
use Rattle.tree.specs.declared.Refusal.TheVariants.{BadPiece, NotAParent, TooDeep, KeyTaken, NoRoom}
use Rattle.tree.specs.declared.Refusal.{Refusal}
use Rattle.tree.specs.declared.Refusal.TheVariants.{BadCount, UnsoundRow}

-- ── the checks in their order ──
-- the first check refuses
stops : {b : Bool} (d : Checked) (why : Refusal) → b ≡ true → next (given b why) d ≡ Err why
stops d why e = (next_first _ d why).1 (inl ((given_refused _ why why).1 (e, refl)))

-- the first check passes
goes_on_lem : {b : Bool} (d : Checked) (why : Refusal) → b ≡ false → next (given b why) d ≡ d
unfolding next
goes_on_lem d why e = ap (λ (c : Checked). next c d) (given_not why e)

-- ── whether one passes ──
pub some_at : (f : ℕ → Bool) (n i : ℕ) → i < n → f i ≡ true → true ≡ some_below f n
unfolding some_below
some_at f n i l e = sym (lt-ltb (least f n) n (omega (arith, least_hit_le f n i e)))

pub some_none : (f : ℕ → Bool) (n i : ℕ) → n ≤ i → ((j : ℕ) → j < i → f j ≡ false) → false ≡ some_below f n
unfolding some_below
some_none f n i l h = sym ((none_below f n).1 (λ j m. h j (omega arith)))

-- ── the piece ──
-- a check without a refusal passed
pub no_error : (c : Checked) → is_err c ≡ false → c ≡ passed
no_error (Ok u) e = refl
no_error (Err why) e = let z : ◌≡◌ {A = Bool} true false = e in absurd (true≢false z)

module _ (p : Table) where
  -- a piece that the check refuses is bad
  pub piece_refused : is_err (check_outcome p) ≡ true → true ≡ bad_piece p
  unfolding check_outcome table_check bad_piece given next
  piece_refused e = go (not (count_ok p)) (ltb (first_bad p) p.count) e
    where
      go : (a b : Bool) → is_err (next (given a BadCount) (given b (UnsoundRow (first_bad p)))) ≡ true
          → true ≡ (a || b || eqb (at p.kind 0) 0 || other_root p.level p.count 0)
      go true b h = refl
      go false true h = refl
      go false false h = let z : ◌≡◌ {A = ℕ} 0 1 = cc in absurd (omega arith)

  -- of a piece that passes, row 0 decides
  pub piece_passed : check_outcome p ≡ passed
      → (eqb (at p.kind 0) 0 || not (eqb (at p.size 0 + 1) p.count)) ≡ bad_piece p
  unfolding check_outcome table_check bad_piece
  piece_passed e =
      let a = (next_passed _ _).0 e in
      ap₂ (λ (b d : Bool). (b || eqb (at p.kind 0) 0) || d)
      (let z : (not (count_ok p) || ltb (first_bad p) p.count) ≡ false =
      neither_of (given_passed _ _ a.0) (given_passed _ _ a.1) in sym z)
      (sym (several_is p ((table_passes p).0 e)))

  pub piece_rows : check_outcome p ≡ passed
      → (0 < length p.kind) × (0 < length p.size) × (at p.size 0 < p.count) × (p.count ≤ 4096)
  unfolding check_outcome
  piece_rows e =
      let s : Sound p = (table_passes p).0 e in
      let u = s.in_use in
      let f = tree_fits (sound_shape p s) 0 u.some in
      (omega arith, omega arith, omega arith, u.few)

  -- a piece that is not bad is sound
  pub piece_sound : bad_piece p ≡ false → Sound p
  unfolding bad_piece table_check
  piece_sound e =
      let d = neither (not (count_ok p) || ltb (first_bad p) p.count || eqb (at p.kind 0) 0) _ e in
      let a = neither (not (count_ok p) || ltb (first_bad p) p.count) _ d.0 in
      let b = neither (not (count_ok p)) _ a.0 in
      (table_passes p).0 ((next_passed _ _).1 (given_not _ b.0, given_not _ b.1))

-- ── the piece under row r ──
module _ (t : Table) (r : ℕ) (p : Table) where
  -- row i of the piece would be too deep; its key is taken
  abbrev pub deep : ℕ → Bool
  deep i = ltb 63 (at p.level i + (at t.level r + 1))

  abbrev pub taken : ℕ → Bool
  taken i = ltb (row_of t.key t.count (at p.key i)) t.count

  -- the checks from 11, 12, 13 on
  abbrev room_check_lem : Checked
  room_check_lem = given (ltb 4096 (t.count + p.count) || ltb (shortest t) (t.count + p.count)) NoRoom

  abbrev key_check_lem : Checked
  key_check_lem = next (given_at taken p.count KeyTaken) room_check_lem

  abbrev deep_check : Checked
  deep_check = next (given (some_below deep p.count) TooDeep) key_check_lem

  abbrev kind_check : Checked
  kind_check = next (given (not (leb (at t.kind r) 1)) (NotAParent r)) deep_check

  pub refused_bad : bad_piece p ≡ true → insert_check t r p ≡ Err BadPiece
  unfolding insert_check
  refused_bad e = stops _ _ e

  module _ (good : bad_piece p ≡ false) where
    after_piece : insert_check t r p ≡ kind_check
    unfolding insert_check
    after_piece = goes_on_lem _ _ good

    pub refused_parent : 1 < at t.kind r → insert_check t r p ≡ Err (NotAParent r)
    refused_parent l = after_piece ∙ stops _ _ (ap not (lt-leb _ _ l))

    module _ (may : at t.kind r ≤ 1) where
      after_parent : insert_check t r p ≡ deep_check
      after_parent = after_piece ∙ goes_on_lem _ _ (ap not (le-leb _ _ may))

      pub refused_deep : some_below deep p.count ≡ true → insert_check t r p ≡ Err TooDeep
      refused_deep e = after_parent ∙ stops _ _ e

      module _ (low : some_below deep p.count ≡ false) where
        after_levels : insert_check t r p ≡ key_check_lem
        after_levels = after_parent ∙ goes_on_lem _ _ low

        pub refused_taken : least taken p.count < p.count → insert_check t r p ≡ Err (KeyTaken (least taken p.count))
        unfolding given_at
        refused_taken l = after_levels ∙ stops _ _ (lt-ltb _ _ l)

        module _ (fresh : p.count ≤ least taken p.count) where
          after_keys : insert_check t r p ≡ room_check_lem
          unfolding given_at
          after_keys = after_levels ∙ goes_on_lem _ _ (le-ltb _ _ fresh)

          pub refused_full : (ltb 4096 (t.count + p.count) || ltb (shortest t) (t.count + p.count)) ≡ true
              → insert_check t r p ≡ Err NoRoom
          refused_full e = after_keys ∙ (given_refused _ _ _).1 (e, refl)

          pub passed_all : (ltb 4096 (t.count + p.count) || ltb (shortest t) (t.count + p.count)) ≡ false
              → insert_check t r p ≡ passed
          passed_all e = after_keys ∙ given_not _ e

-- a law for each answer
pub ruleset answers = (refused_bad, refused_parent, refused_deep, refused_taken, refused_full, passed_all)
