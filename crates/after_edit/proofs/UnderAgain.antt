-- After an accepted edit every row that stays stands under the row that it stood under. The parent of a row that stays
-- stays too: `parent_stays`. Where the two stand afterwards, the one is the parent of the other: `stays_under`. So a
-- key that was found under a row is found again at its level under the row of the same key, `under_again`, and a root
-- is found again as a root, `root_again`. Assumes nothing.
use mathlib.Core.Path.{◌≡◌, refl, sym, ap, ◌∙◌}
use mathlib.Core.Logic.{⊎_elim}
use mathlib.Core.Bool.{Bool, true, false, false≢true}
use Prim.Native.Nat.{ℕ, suc, ◌+◌, ◌-◌, ◌<◌, ◌≤◌}
use native.Mathlib.Decide.{dec_lt, ℕ_discrete}
use native.Mathlib.Omega.{arith}
use borrow.Author.Tests.{lt-ltb, le-ltb, eqb-true, eqb-false, eq-eqb, ne_eqb}
use lib.Dec.{eqb}
use lib.IntN.{pos, ◌+ℤ◌}
use Rattle.tree.specs.Table.{Table, at}
use Rattle.tree.specs.Rules.{Sound}
use Rattle.tree.specs.Tree.{parent, ancestor}
use Rattle.tree.specs.Edit.{gap_of, insert_done, delete_done, rename_done}
use Rattle.tree.specs.Outcome.{find_outcome}
use Rattle.tree.specs.declared.Child.{Child}
use Rattle.tree.specs.declared.Done.{Done}
use Rattle.tree.specs.declared.Located.TheVariants.{Root, Under as Below}
use Rattle.tree.proofs.TreeLaws.{is_parent, parent_is, parent_below, parent_less}
use Rattle.tree.proofs.SoundLaws.{sound_shape, sound_descendants, shape_fits, either, either_left}
use Rattle.tree.proofs.SoundLaws.{either_right}
use Rattle.tree.proofs.SubtreeLaws.{nested, child_within, child_is}
use Rattle.tree.proofs.AcceptLaws.{neither, neither_of}
use Rattle.tree.proofs.LevelLaws.{ancestor_step}
use Rattle.tree.proofs.RowMoveLaws.{move_adds}
use Rattle.tree.proofs.FindLaws.{find_root, find_under}
use Rattle.after_edit.specs.Act.{Act, insertion, deletion, renaming, outcome, row_named, table_after, done_of}
use Rattle.after_edit.specs.Survives.{moved_to, goes, resizes, Survives}
use Rattle.after_edit.proofs.ActLaws.{Fits, accepted_has, after_sound}
use Rattle.after_edit.proofs.FoundAgain.{edited_sound, plus_minus, after_gap, row_again}
use Rattle.std.specs.Prelude.{Ok}

-- ── what goes and what stays ──
-- the parent of a row that stays stays
pub parent_stays : (a : Act) (t : Table) → Sound t → (i p : ℕ) → i < t.count → parent t.level i ≡ suc p
    → goes a t i ≡ false → goes a t p ≡ false
parent_stays (insertion k b) t s i p l e g = refl
parent_stays (deletion k) t s i p l e g =
    let r : ℕ = row_named (deletion k) t in
    let (x, y) = neither (eqb r p) _ (sym (ancestor_step (sound_shape t s) r i p l e) ∙ (neither (eqb i r) _ g).1) in
    neither_of (ne_eqb p r (λ z. eqb-false r p x (sym z))) y
parent_stays (renaming k m) t s i p l e g = refl

-- ── the edit by row numbers ──
-- what the answer d of the edit a of the table t says of rows and sizes
record Shifts (a : Act) (t : Table) (d : Done) : Type 0 where
  -- the first moved row goes to the row `to`
  to : ℕ
  lands : pos d.first +ℤ d.moved ≡ pos to
  -- a row before it that stays stands before that row
  before : (i : ℕ) → i < t.count → goes a t i ≡ false → i < d.first → i < to
  -- a row that changes its size comes before it, and the row after its descendants does not
  reaches : (p : ℕ) → p < t.count → resizes a t p ≡ true
      → (p < d.first) × (d.first ≤ p + 1 + at t.size p)
  -- a row that comes before it, stays and has it as a descendant changes its size
  resized : (p : ℕ) → p < t.count → goes a t p ≡ false → p < d.first → d.first ≤ p + at t.size p
      → resizes a t p ≡ true

-- so it is with an ancestor of row r, where the first moved row is the one after row r and its descendants
above_reaches : (t : Table) → Sound t → (r : ℕ) → r < t.count → (p : ℕ) → p < t.count
    → ancestor t.level p r ≡ true → (p < gap_of t r) × (gap_of t r ≤ p + 1 + at t.size p)
unfolding gap_of
above_reaches t s r m p l e =
    let (x, y) = (sound_descendants t s p r l m).0 e in
    let z = nested (sound_shape t s) p r l x y in
    (omega arith, omega arith)

-- so it is with each of the three edits
after_shifts : (a : Act) (t : Table) → Fits a t → Shifts a t (done_of a t)
unfolding insert_done delete_done rename_done gap_of
after_shifts (insertion k b) t f =
    let r : ℕ = row_named (insertion k b) t in
    let m : row_named (insertion k b) t < t.count = f.found in
    record {
      to = gap_of t r + b.count;
      lands = refl;
      before = λ i l g h. omega arith;
      reaches = λ p l e. ⊎_elim
          (λ q. let z : p ≡ row_named (insertion k b) t = eqb-true p r q in
          let same = ap (at t.size) z in (omega arith, omega arith))
          (above_reaches t f.sound r m p l) (either (eqb p r) _ e);
      resized = λ p l g x y. elim (dec_lt p r) [
        | yes q ↦ either_right (eqb p r) ((sound_descendants t f.sound p r l m).1 (q, omega arith))
        | no q ↦ elim (ℕ_discrete p r) [
          | yes z ↦ either_left _ (eq-eqb p r z)
          | no z ↦ absurd (omega (arith, nested (sound_shape t f.sound) r p m (omega arith) (omega arith)))
        ]
      ];
    }
after_shifts (deletion k) t f =
    let r : ℕ = row_named (deletion k) t in
    let by : ℕ = at t.size r + 1 in
    let early : (i : ℕ) → i < t.count → goes (deletion k) t i ≡ false → i < gap_of t r → i < r =
    λ i l g h. elim (dec_lt i r) [
      | yes q ↦ q
      | no q ↦ absurd (omega (arith, after_gap t k f i l g q))
    ] in
    record {
      to = r;
      lands = plus_minus (r + by) by (omega arith) ∙ ap pos (let z : r + by - by ≡ r = omega arith in z);
      before = early;
      reaches = above_reaches t f.sound r f.found;
      resized = λ p l g x y. (sound_descendants t f.sound p r l f.found).1 (early p l g x, omega arith);
    }
after_shifts (renaming k m) t f = record {
  to = t.count;
  lands = ap pos (let z : t.count + 0 ≡ t.count = omega arith in z);
  before = λ i l g h. h;
  reaches = λ p l e. absurd (false≢true e);
  resized = λ p l g x y. absurd (omega (arith, shape_fits (sound_shape t f.sound) p l));
}

-- ── a row and its parent afterwards ──
module _ (a : Act) (t : Table) (d : Done) (u : Table) (h : Shifts a t d) where
  -- the row that a row stands at
  stands_at : (i w : ℕ) → Survives a d t u i w
      → (i < d.first → w ≡ i) × (d.first ≤ i → w ≡ i - d.first + h.to)
  stands_at i w x = (
    λ l. let z : pos w ≡ pos i = rw (lt-ltb i d.first l) at x.moved in (cc),
    λ l. let y : pos w ≡ pos i +ℤ d.moved = rw (le-ltb i d.first l) at x.moved in
        let z : pos w ≡ pos (i - d.first + h.to) = y ∙ move_adds d.moved d.first h.to i h.lands l in
        (cc),
  )

  -- its size: the row after its descendants moves as a row does, where the size changes
  ends_at : (p v : ℕ) → Survives a d t u p v
      → (resizes a t p ≡ false → at u.size v ≡ at t.size p)
      × (resizes a t p ≡ true → d.first ≤ p + 1 + at t.size p
      → p + 1 + at u.size v ≡ p + 1 + at t.size p - d.first + h.to)
  ends_at p v x = (
    λ e. let z : pos (at u.size v) ≡ pos (at t.size p) = rw e at x.size in (cc),
    λ e l. let y : pos (at u.size v) ≡ pos (at t.size p) +ℤ d.moved = rw e at x.size in
        let c : ℕ = p + 1 + at t.size p in
        let z : pos (c - at t.size p + at u.size v) ≡ pos (c - d.first + h.to) =
        sym (move_adds d.moved (at t.size p) (at u.size v) c (sym y) (omega arith))
        ∙ move_adds d.moved d.first h.to c h.lands l in
        let q : c - at t.size p + at u.size v ≡ c - d.first + h.to = cc in
        omega arith,
  )

  -- a row is among the next size rows after its parent again
  reached_again : (i p w v : ℕ) → i < t.count → p < i → i ≤ p + at t.size p → goes a t i ≡ false
      → goes a t p ≡ false → Survives a d t u i w → Survives a d t u p v → (v < w) × (w ≤ v + at u.size v)
  reached_again i p w v l m n g o x y = go (resizes a t p) refl
    where
      w_is : (i < d.first → w ≡ i) × (d.first ≤ i → w ≡ i - d.first + h.to)
      w_is = stands_at i w x

      v_is : (p < d.first → v ≡ p) × (d.first ≤ p → v ≡ p - d.first + h.to)
      v_is = stands_at p v y

      go : (b : Bool) → resizes a t p ≡ b → (v < w) × (w ≤ v + at u.size v)
      go true e =
          let (f, z) = h.reaches p (omega arith) e in
          let vp : v ≡ p = v_is.0 f in
          let end = (ends_at p v y).1 e z in
          elim (dec_lt i d.first) [
            | yes q ↦ let wi = w_is.0 q in let b = h.before i l g q in (omega arith, omega arith)
            | no q ↦
                let wi = w_is.1 (omega arith) in
                let b = h.before p (omega arith) o f in
                (omega arith, omega arith)
          ]
      go false e =
          let same = (ends_at p v y).0 e in
          elim (dec_lt i d.first) [
            | yes q ↦
                let wi = w_is.0 q in
                let vp = v_is.0 (omega arith) in
                (omega arith, omega arith)
            | no q ↦ elim (dec_lt p d.first) [
              | yes f ↦ absurd (false≢true (sym e ∙ h.resized p (omega arith) o f (omega arith)))
              | no f ↦
                  let wi = w_is.1 (omega arith) in
                  let vp = v_is.1 (omega arith) in
                  (omega arith, omega arith)
            ]
          ]

-- where a row and its parent stand after an accepted edit, the one is the parent of the other
pub stays_under : (a : Act) (t : Table) (d : Done) → (outcome a t).answer ≡ Ok d
    → (i p : ℕ) → i < t.count → parent t.level i ≡ suc p → goes a t i ≡ false
    → (w v : ℕ) → Survives a d t (outcome a t).table i w → Survives a d t (outcome a t).table p v
    → parent (outcome a t).table.level w ≡ suc v
stays_under a t d e i p l q g =
    accepted_has (λ (d : Done) (u : Table). (w v : ℕ) → Survives a d t u i w → Survives a d t u p v
    → parent u.level w ≡ suc v) a t d e
    (λ f w v x y.
    let b : p < i = parent_below t.level i p q in
    let c : i ≤ p + at t.size p = child_within (sound_shape t f.sound) p i l q in
    let (m, n) = reached_again a t (done_of a t) (table_after a t) (after_shifts a t f) i p w v l b c g
    (parent_stays a t f.sound i p l q g) x y in
    child_is (sound_shape (table_after a t) (after_sound a t f)) v w y.in_use m n
    (omega (arith, x.level, y.level, parent_less t.level i p q)))

-- ── the key again ──
-- a key that was found under a row, and whose row stays, is found again at its level under the row of the same key,
-- both where the answer says
pub under_again : (a : Act) (t : Table) (d : Done) → (outcome a t).answer ≡ Ok d
    → (k : ℕ) (c : Child) → find_outcome t k ≡ Ok (Below c) → goes a t c.row ≡ false
    → (b : Child) × (find_outcome (outcome a t).table k ≡ Ok (Below b)) × (b.level ≡ c.level)
    × (at (outcome a t).table.key b.parent ≡ at t.key c.parent)
    × (pos b.row ≡ moved_to d c.row) × (pos b.parent ≡ moved_to d c.parent)
under_again a t d e k c q g =
    let u : Table = (outcome a t).table in
    let (s, l, key, level, h) = (find_under t k c).0 q in
    let up : parent t.level c.row ≡ suc c.parent = parent_is t.level c.row c.parent h in
    let (w, x) = row_again a t d e c.row l g in
    let (v, y) = row_again a t d e c.parent (omega (arith, h.earlier))
    (parent_stays a t s c.row c.parent l up g) in
    let b : Child = record { row = w; level = c.level; parent = v } in (
      b,
      (find_under u k b).1 (
        edited_sound a t (d, e),
        x.in_use,
        x.key ∙ key,
        x.level ∙ level,
        is_parent u.level w v (stays_under a t d e c.row c.parent l up g w v x y),
      ),
      refl,
      y.key,
      x.moved,
      y.moved,
    )

-- a key that was found as a root that stays is found again as a root, where the answer says
pub root_again : (a : Act) (t : Table) (d : Done) → (outcome a t).answer ≡ Ok d
    → (k i : ℕ) → find_outcome t k ≡ Ok (Root i) → goes a t i ≡ false
    → (w : ℕ) × (find_outcome (outcome a t).table k ≡ Ok (Root w)) × (pos w ≡ moved_to d i)
root_again a t d e k i q g =
    let (s, l, key, level) = (find_root t k i).0 q in
    let (w, x) = row_again a t d e i l g in (
      w,
      (find_root (outcome a t).table k w).1
          (edited_sound a t (d, e), x.in_use, x.key ∙ key, x.level ∙ level),
      x.moved,
    )
