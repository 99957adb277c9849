-- What carrying over an accepted edit means: every pair whose key is still there is found again by its key, and the
-- others are dropped, `carry_refinds`. So each remaining pair names the same key as before, place by place,
-- `same_keys`; a pair is dropped exactly when its key is gone, `dropped_gone`; and each role holds the keys that it
-- held, but for those gone, `grants_stay`. Assumes nothing.
use mathlib.Core.Path.{◌≡◌, refl, sym, ap, ap₂, ◌∙◌}
use mathlib.Core.Logic.{◌↔◌}
use mathlib.Core.Bool.{Bool, true, false, cond, not, true≢false}
use mathlib.Core.List.{List, [], ◌∷◌}
use Prim.Native.Nat.{ℕ, ◌<◌}
use native.Mathlib.Omega.{arith}
use borrow.Author.Tests.{ltb-true, lt-ltb, not-false}
use lib.Dec.{ltb}
use lib.IntN.{nat_abs}
use Rattle.tree.specs.Table.{Table, at}
use Rattle.tree.specs.Sound.{row_of}
use Rattle.tree.specs.Rules.{Sound}
use Rattle.tree.specs.Pairs.{Pair, pair}
use Rattle.tree.specs.Outcome.{find_outcome, found_at}
use Rattle.tree.specs.Carry.{row_after, was_deleted, carried_by, carried}
use Rattle.tree.specs.declared.Done.{Done}
use Rattle.tree.proofs.SoundLaws.{find_at}
use Rattle.tree.proofs.AcceptLaws.{no_key}
use Rattle.tree.proofs.EditLaws.{row_key}
use Rattle.tree.proofs.FindLaws.{find_row, find_found, find_none}
use Rattle.tree.proofs.StepLaws.{In}
use Rattle.tree.proofs.CarryLaws.{carried_in, carried_same}
use Rattle.after_edit.specs.Act.{Act, outcome}
use Rattle.after_edit.specs.Survives.{goes}
use Rattle.after_edit.proofs.FoundAgain.{edited_sound, row_again}
use Rattle.after_edit.proofs.GoneLaws.{gone}
use Rattle.carry.specs.Refound.{refound_at, refound, still_there, by_key}
use Rattle.carry.proofs.EditMoveLaws.{moved_to_is, deleted_goes}
use Rattle.std.specs.Prelude.{Ok, Err}
use Rattle.tree.specs.declared.Refusal.TheVariants.{UnknownKey}

-- ── carrying is finding again ──
-- every pair's row is a row of the table: what refusal 5 leaves
abbrev pub Inside : Table → List Pair → Type 0
Inside t ps = (p : Pair) → In p ps → p.row < t.count

module _ (a : Act) (t : Table) (d : Done) (e : (outcome a t).answer ≡ Ok d) where
  -- a row that goes is not found again, and any other is found where carrying puts it
  row_refound : (w : ℕ) → w < t.count → (b : Bool) → goes a t w ≡ b
      → (not (ltb (refound_at t (outcome a t).table w) (outcome a t).table.count) ≡ b)
      × (b ≡ false → nat_abs (row_after d.first d.moved w) ≡ refound_at t (outcome a t).table w)
  row_refound w l true g =
      let n = (find_none (outcome a t).table (at t.key w)).0 (gone a t d e w l g) in
      (ap not ((no_key (outcome a t).table (at t.key w)).1 n.1), λ z. absurd (true≢false z))
  row_refound w l false g =
      let u : Table = (outcome a t).table in
      let (v, r) = row_again a t d e w l g in
      let q : refound_at t (outcome a t).table w ≡ v =
      ap (row_of u.key u.count) (sym r.key) ∙ find_at u (edited_sound a t (d, e)) v r.in_use in (
        ap not (lt-ltb (refound_at t u w) u.count (omega (arith, r.in_use))),
        λ z. ap nat_abs (sym (r.moved ∙ moved_to_is d w)) ∙ sym q,
      )

  -- the carried list is the list found again by its keys
  pub carry_refinds : (ps : List Pair) → Inside t ps
      → carried d.first d.moved ps ≡ refound t (outcome a t).table ps
  unfolding carried refound
  carry_refinds ps i =
      carried_same _ _ _ _ ps
      (λ p j. let w : ℕ = p.row in
      let s : was_deleted d.first d.moved p.row ≡ goes a t p.row = deleted_goes a t d e w (i p j) in
      let r = row_refound w (i p j) (goes a t w) refl in
      (s ∙ sym r.0, λ z. r.1 (sym s ∙ z)))

  -- a row's pairs are dropped exactly when its key is gone
  pub dropped_gone : (w : ℕ) → w < t.count
      → (was_deleted d.first d.moved w ≡ true)
      ↔ (find_outcome (outcome a t).table (at t.key w) ≡ Err UnknownKey)
  dropped_gone w l = (
    λ h. gone a t d e w l (sym (deleted_goes a t d e w l) ∙ h),
    λ h. deleted_goes a t d e w l ∙ back (goes a t w) refl h,
  )
    where
      back : (b : Bool) → goes a t w ≡ b → find_outcome (outcome a t).table (at t.key w) ≡ Err UnknownKey → b ≡ true
      back true g h = refl
      back false g h =
          let (v, r) = row_again a t d e w l g in
          let z : Err UnknownKey ≡ found_at (outcome a t).table v =
          sym h ∙ ap (find_outcome (outcome a t).table) (sym r.key)
          ∙ find_row (outcome a t).table (edited_sound a t (d, e)) v r.in_use in
          let y : ◌≡◌ {A = ℕ} 0 1 = cc in
          absurd (omega arith)

-- ── a list by its keys ──
-- place by place they name the same role and the same key
refound_keys : (t u : Table) (ps : List Pair) → by_key u (refound t u ps) ≡ by_key t (still_there t u ps)
unfolding refound still_there carried_by
refound_keys t u [] = refl
refound_keys t u (p ∷ ps) = go (ltb (refound_at t u p.row) u.count) refl (refound_keys t u ps)
  where
    go : (b : Bool) → ltb (refound_at t u p.row) u.count ≡ b
        → by_key u (refound t u ps) ≡ by_key t (still_there t u ps)
        → by_key u (cond (not b) (refound t u ps) (pair p.role (refound_at t u p.row) ∷ refound t u ps))
        ≡ by_key t (cond (not b) (still_there t u ps) (pair p.role p.row ∷ still_there t u ps))
    go true e ih =
        ap₂ (λ (k : ℕ) (l : List Pair). pair p.role k ∷ l) (row_key u (at t.key p.row) (ltb-true _ _ e)) ih
    go false e ih = ih

-- each remaining pair names the same key as before, and its role
pub same_keys : (a : Act) (t : Table) (d : Done) → (outcome a t).answer ≡ Ok d → (ps : List Pair) → Inside t ps
    → by_key (outcome a t).table (carried d.first d.moved ps) ≡ by_key t (still_there t (outcome a t).table ps)
same_keys a t d e ps i =
    ap (by_key (outcome a t).table) (carry_refinds a t d e ps i) ∙ refound_keys t (outcome a t).table ps

-- ── the grants of a role ──
-- the role r holds the key k: it has a pair on the row of k
pub record Holds (t : Table) (ps : List Pair) (r k : ℕ) : Type 0 where
  pub row : ℕ
  pub held : In (pair r row) ps
  pub inside : row < t.count
  pub key : at t.key row ≡ k

-- a pair that is found again, by its key
pub refound_in : (t u : Table) → Sound u → (ps : List Pair) (q : Pair) → In q (refound t u ps)
    ↔ ((w : ℕ) × In (pair q.role w) ps × (q.row < u.count) × (at u.key q.row ≡ at t.key w))
unfolding refound
refound_in t u s ps q = (there, back)
  where
    there : In q (refound t u ps)
        → (w : ℕ) × In (pair q.role w) ps × (q.row < u.count) × (at u.key q.row ≡ at t.key w)
    there i =
        let (w, j, g, f) = (carried_in _ _ q ps).0 i in
        let l : refound_at t u w < u.count = ltb-true _ _ (not-false _ g) in
        (w, j, omega arith, ap (at u.key) f ∙ row_key u (at t.key w) l)

    back : (w : ℕ) × In (pair q.role w) ps × (q.row < u.count) × (at u.key q.row ≡ at t.key w)
        → In q (refound t u ps)
    back h =
        let (w, j, l, k) = h in
        let f : refound_at t u w ≡ q.row = ap (row_of u.key u.count) (sym k) ∙ find_at u s q.row l in
        (carried_in _ _ q ps).1 (w, j, ap not (lt-ltb (refound_at t u w) u.count (omega arith)), sym f)

-- after the edit a role holds exactly the keys that it held, but for those gone
pub grants_stay : (a : Act) (t : Table) (d : Done) → (outcome a t).answer ≡ Ok d → (ps : List Pair) → Inside t ps
    → (r k : ℕ) → Holds (outcome a t).table (carried d.first d.moved ps) r k
    ↔ (Holds t ps r k × ((i : ℕ) × (find_outcome (outcome a t).table k ≡ found_at (outcome a t).table i)))
grants_stay a t d e ps i r k = rw (carry_refinds a t d e ps i) (there, back)
  where
    u : Table
    u = (outcome a t).table

    s : Sound (outcome a t).table
    s = edited_sound a t (d, e)

    there : Holds u (refound t u ps) r k → Holds t ps r k × ((i : ℕ) × (find_outcome u k ≡ found_at u i))
    there h =
        let (w, j, l, x) = (refound_in t u s ps (pair r h.row)).0 h.held in (
          record { row = w; held = j; inside = i (pair r w) j; key = sym x ∙ h.key },
          (h.row, (find_found u k h.row).1 (s, h.inside, h.key)),
        )

    back : Holds t ps r k × ((i : ℕ) × (find_outcome u k ≡ found_at u i)) → Holds u (refound t u ps) r k
    back h =
        let f = (find_found u k h.1.0).0 h.1.1 in
        record {
          row = h.1.0;
          held = (refound_in t u s ps (pair r h.1.0)).1
              (h.0.row, h.0.held, f.1, f.2 ∙ sym h.0.key);
          inside = f.1;
          key = f.2;
        }
