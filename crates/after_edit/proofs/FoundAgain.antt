-- After an accepted edit the table is sound: `edited_sound`. Each key of the table that was not deleted is found again
-- at the row that the answer's first moved row and move say: `found_again`. Its row holds what it held, but for the
-- sizes of exactly the parent and its ancestors, which change by the number of rows that came or went, and for the name
-- of a renamed row: `row_again`, and by the definitions `after_row`. Assumes nothing.
use mathlib.Core.Path.{◌≡◌, refl, sym, ap, subst, ◌∙◌}
use mathlib.Core.Bool.{Bool, true, false, cond, ◌||◌, true≢false}
use mathlib.Core.List.{List}
use Prim.Native.Nat.{ℕ, zero, suc, ◌+◌, ◌-◌, ◌<◌, ◌≤◌}
use native.Mathlib.Decide.{dec_lt, ℕ_discrete}
use native.Mathlib.Omega.{arith}
use borrow.Author.Tests.{lt-ltb, le-ltb, eqb-false, eq-eqb, ne_eqb}
use lib.Dec.{eqb}
use lib.IntN.{pos, ◌+ℤ◌}
use lib.ListN.{length, length-map}
use lib.Seq.{get_or-set_same, get_or-set_other}
use Rattle.tree.specs.Table.{Table, at}
use Rattle.tree.specs.Rules.{InUse, Sound}
use Rattle.tree.specs.Tree.{ancestor}
use Rattle.tree.specs.Edit.{opened, closed, gap_of, inserted, deleted, renamed, minus, insert_done, delete_done}
use Rattle.tree.specs.Edit.{rename_done}
use Rattle.tree.specs.Outcome.{find_outcome, found_at}
use Rattle.tree.specs.declared.Done.{Done}
use Rattle.tree.proofs.SoundLaws.{sound_descendants}
use Rattle.tree.proofs.AcceptLaws.{insert_passes, neither}
use Rattle.tree.proofs.ColumnLaws.{opened_stays, opened_moves, closed_stays, closed_moves, changed_at, length_changed}
use Rattle.tree.proofs.EditLaws.{gap_fits}
use Rattle.tree.proofs.FindLaws.{find_row, find_found}
use Rattle.tree.proofs.EditSizes.{ancestor_larger}
use Rattle.after_edit.specs.Act.{Act, insertion, deletion, renaming, outcome, Accepted, row_named}
use Rattle.after_edit.specs.Act.{table_after, done_of}
use Rattle.after_edit.specs.Survives.{moved_to, goes, Survives}
use Rattle.after_edit.proofs.ActLaws.{Fits, accepted_fits, accepted_table, accepted_has, after_sound}
use Rattle.std.specs.Prelude.{Ok}

-- after an accepted edit the table is sound
pub edited_sound : (a : Act) (t : Table) → Accepted (outcome a t) → Sound (outcome a t).table
edited_sound a t h = subst Sound (sym (accepted_table a t h)) (after_sound a t (accepted_fits a t h))

-- ── signed numbers ──
-- less n, where there are n
pub plus_minus : (m n : ℕ) → n ≤ m → pos m +ℤ minus n ≡ pos (m - n)
unfolding minus
plus_minus m zero l = ap pos (let z : m + 0 ≡ m - 0 = omega arith in z)
plus_minus m (suc n) l = rw (le-ltb m (suc n) l)

-- a size that rises by c where b
pos_more : (b : Bool) (s c : ℕ) → pos (cond b (s + c) s) ≡ cond b (pos s +ℤ pos c) (pos s)
pos_more true s c = refl
pos_more false s c = refl

-- a size that falls by c where b
pos_less : (b : Bool) (s c : ℕ) → (b ≡ true → c ≤ s) → pos (cond b (s - c) s) ≡ cond b (pos s +ℤ minus c) (pos s)
pos_less true s c h = sym (plus_minus s c (h refl))
pos_less false s c h = refl

-- row i in the new numbering, where it comes before the first moved row
stays_at : (d : Done) (i : ℕ) → i < d.first → pos i ≡ moved_to d i
stays_at d i h = sym (ap (λ (b : Bool). cond b (pos i) (pos i +ℤ d.moved)) (lt-ltb i d.first h))

-- and from it on
moves_to : (d : Done) (i : ℕ) → d.first ≤ i → pos i +ℤ d.moved ≡ moved_to d i
moves_to d i h = sym (ap (λ (b : Bool). cond b (pos i) (pos i +ℤ d.moved)) (le-ltb i d.first h))

-- ── a row after an insertion ──
module _ (t : Table) (k : ℕ) (p : Table) (f : Fits (insertion k p) t) (i : ℕ) (l : i < t.count) where
  -- where it stands, and that every column has there what it had
  opened_again : (w : ℕ) × (pos w ≡ moved_to (done_of (insertion k p) t) i) × (w < t.count + p.count)
      × ((ys xs : List ℕ) → p.count ≤ length ys → t.count ≤ length xs
      → at (opened (gap_of t (row_named (insertion k p) t)) t.count p.count ys xs) w ≡ at xs i)
  unfolding insert_done
  opened_again =
      let g : ℕ = gap_of t (row_named (insertion k p) t) in
      let m : gap_of t (row_named (insertion k p) t) ≤ t.count =
      gap_fits t f.sound (row_named (insertion k p) t) f.found in
      elim (dec_lt i g) [
        | yes h ↦ (
          i,
          stays_at (done_of (insertion k p) t) i h,
          omega arith,
          λ ys xs a b. opened_stays g t.count p.count ys xs i h (omega arith),
        )
        | no h ↦
            let q : gap_of t (row_named (insertion k p) t) ≤ i = omega arith in (
              i + p.count,
              moves_to (done_of (insertion k p) t) i q,
              omega arith,
              λ ys xs a b. opened_moves g t.count p.count ys xs i q l b a,
            )
      ]

  -- the row again
  again_inserted : (w : ℕ) × Survives (insertion k p) (done_of (insertion k p) t) t (table_after (insertion k p) t) i w
  unfolding inserted insert_done
  again_inserted =
      let (w, e, m, col) = opened_again in
      let r : ℕ = row_named (insertion k p) t in
      let v : InUse p = ((insert_passes t r p).0 f.passes).piece.in_use in
      let u : InUse t = f.sound.in_use in
      let q : ℕ → Bool = λ i. eqb i r || ancestor t.level i r in (
        w,
        record {
          moved = e;
          in_use = m;
          key = col p.key t.key v.in_key u.in_key;
          size = ap pos (col p.size _ v.in_size (rw length_changed u.in_size)
              ∙ changed_at q (λ s. s + p.count) t.size i (omega (arith, u.in_size)))
              ∙ pos_more (q i) (at t.size i) p.count;
          level = col _ t.level (rw length-map v.in_level) u.in_level;
          kind = col p.kind t.kind v.in_kind u.in_kind;
          name = col p.name t.name v.in_name u.in_name;
        },
      )

-- ── a row after a deletion ──
module _ (t : Table) (k : ℕ) (f : Fits (deletion k) t) (i : ℕ) (l : i < t.count)
    (g : goes (deletion k) t i ≡ false) where
  -- a row that stays comes before the deleted row, or after its descendants
  pub after_gap : (i < row_named (deletion k) t → ⊥) → gap_of t (row_named (deletion k) t) ≤ i
  unfolding gap_of
  after_gap h =
      let r : ℕ = row_named (deletion k) t in
      let n = neither (eqb i r) _ g in
      let ne : i ≡ row_named (deletion k) t → ⊥ = eqb-false i r n.0 in
      elim (dec_lt i (r + (at t.size r + 1))) [
        | yes q ↦ absurd (true≢false (sym ((sound_descendants t f.sound r i f.found l).1 (omega arith)) ∙ n.1))
        | no q ↦ omega arith
      ]

  -- where it stands, and that every column has there what it had
  closed_again : (w : ℕ) × (pos w ≡ moved_to (done_of (deletion k) t) i)
      × (w < t.count - (at t.size (row_named (deletion k) t) + 1))
      × ((xs : List ℕ) → t.count ≤ length xs
      → at (closed (row_named (deletion k) t) t.count (at t.size (row_named (deletion k) t) + 1) xs) w ≡ at xs i)
  unfolding delete_done gap_of
  closed_again =
      let r : ℕ = row_named (deletion k) t in
      let by : ℕ = at t.size r + 1 in
      let m : r + by ≤ t.count = gap_fits t f.sound r f.found in
      elim (dec_lt i r) [
        | yes h ↦ (
          i,
          stays_at (done_of (deletion k) t) i (omega arith),
          omega arith,
          λ xs a. closed_stays r t.count by xs i h (omega arith),
        )
        | no h ↦
            let q : r + by ≤ i = after_gap h in (
              i - by,
              sym (plus_minus i by (omega arith)) ∙ moves_to (done_of (deletion k) t) i q,
              omega arith,
              λ xs a. closed_moves r t.count by xs i q l a,
            )
      ]

  -- the row again
  again_deleted : (w : ℕ) × Survives (deletion k) (done_of (deletion k) t) t (table_after (deletion k) t) i w
  unfolding deleted delete_done
  again_deleted =
      let (w, e, m, col) = closed_again in
      let r : ℕ = row_named (deletion k) t in
      let by : ℕ = at t.size r + 1 in
      let u : InUse t = f.sound.in_use in (
        w,
        record {
          moved = e;
          in_use = m;
          key = col t.key u.in_key;
          size = ap pos (col _ (rw length_changed u.in_size)
              ∙ changed_at (λ i. ancestor t.level i r) (λ s. s - by) t.size i (omega (arith, u.in_size)))
              ∙ pos_less (ancestor t.level i r) (at t.size i) by (ancestor_larger t f.sound r f.found i l);
          level = col t.level u.in_level;
          kind = col t.kind u.in_kind;
          name = col t.name u.in_name;
        },
      )

-- ── a row after any edit ──
-- the row again, in the table and by the answer that the definitions give
pub after_row : (a : Act) (t : Table) → Fits a t → (i : ℕ) → i < t.count → goes a t i ≡ false
    → (w : ℕ) × Survives a (done_of a t) t (table_after a t) i w
unfolding renamed rename_done
after_row (insertion k p) t f i l g = again_inserted t k p f i l
after_row (deletion k) t f i l g = again_deleted t k f i l g
after_row (renaming k m) t f i l g =
    let r : ℕ = row_named (renaming k m) t in (
      i,
      record {
        moved = stays_at (done_of (renaming k m) t) i l;
        in_use = l;
        key = refl;
        size = refl;
        level = refl;
        kind = refl;
        name = elim (ℕ_discrete i r) [
          | yes e ↦ rw (eq-eqb i r e, e) (get_or-set_same t.name r m 0 (omega (arith, f.sound.in_use.in_name)))
          | no e ↦ rw (ne_eqb i r e) (get_or-set_other t.name r i m 0 e)
        ];
      },
    )

-- each row that was not deleted stands again where the answer says, and holds what 01 says
pub row_again : (a : Act) (t : Table) (d : Done) → (outcome a t).answer ≡ Ok d
    → (i : ℕ) → i < t.count → goes a t i ≡ false → (w : ℕ) × Survives a d t (outcome a t).table i w
row_again a t d e i l g =
    accepted_has (λ (d : Done) (u : Table). (w : ℕ) × Survives a d t u i w) a t d e (λ f. after_row a t f i l g)

-- ── the key again ──
-- each key that was not deleted is found again at the row that the answer's first moved row and move say
pub found_again : (a : Act) (t : Table) (d : Done) → (outcome a t).answer ≡ Ok d
    → (k i : ℕ) → find_outcome t k ≡ found_at t i → goes a t i ≡ false
    → (w : ℕ) × (pos w ≡ moved_to d i) × (find_outcome (outcome a t).table k ≡ found_at (outcome a t).table w)
found_again a t d e k i q g =
    let h : Accepted (outcome a t) = (d, e) in
    let o = (find_found t k i).0 q in
    let (w, r) = row_again a t d e i o.1 g in
    let x : at (outcome a t).table.key w ≡ k = r.key ∙ o.2 in (
      w,
      r.moved,
      ap (find_outcome (outcome a t).table) (sym x)
          ∙ find_row (outcome a t).table (edited_sound a t h) w r.in_use,
    )
