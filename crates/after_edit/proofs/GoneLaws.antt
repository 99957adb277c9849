-- The named row of an accepted deletion and its descendants go: their keys are not found afterwards, `gone`.
-- Assumes nothing.
use mathlib.Core.Path.{◌≡◌, sym, ap, ◌∙◌}
use mathlib.Core.Logic.{⊎_elim}
use mathlib.Core.Bool.{true, false≢true}
use Prim.Native.Nat.{ℕ, ◌+◌, ◌-◌, ◌<◌, ◌≤◌}
use native.Mathlib.Decide.{dec_lt}
use native.Mathlib.Omega.{arith}
use borrow.Author.Tests.{eqb-true}
use lib.ListN.{length}
use Rattle.tree.specs.Table.{Table, at}
use Rattle.tree.specs.Sound.{row_of}
use Rattle.tree.specs.Rules.{Sound}
use Rattle.tree.specs.EditRules.{NoKey}
use Rattle.tree.specs.Edit.{closed, gap_of, deleted}
use Rattle.tree.specs.Refusal.{next}
use Rattle.tree.specs.Outcome.{located, find_outcome}
use Rattle.tree.specs.declared.Done.{Done}
use Rattle.tree.proofs.SoundLaws.{table_passes, sound_descendants, find_at, either}
use Rattle.tree.proofs.AcceptLaws.{no_key}
use Rattle.tree.proofs.ColumnLaws.{closed_stays, closed_moves}
use Rattle.tree.proofs.EditLaws.{gap_fits}
use Rattle.after_edit.specs.Act.{Act, insertion, deletion, renaming, outcome, row_named, table_after}
use Rattle.after_edit.specs.Survives.{goes}
use Rattle.after_edit.proofs.ActLaws.{Fits, accepted_has, after_sound}
use Rattle.std.specs.Prelude.{Ok, Err}
use Rattle.tree.specs.declared.Refusal.TheVariants.{UnknownKey}

-- a key stands in one row only
one_row : (t : Table) → Sound t → (i j : ℕ) → i < t.count → j < t.count → at t.key i ≡ at t.key j → i ≡ j
one_row t s i j l m e = sym (find_at t s i l) ∙ ap (row_of t.key t.count) e ∙ find_at t s j m

-- a key that no row of a sound table has is not found
not_found : (t : Table) → Sound t → (x : ℕ) → NoKey t x → find_outcome t x ≡ Err UnknownKey
unfolding find_outcome next located
not_found t s x h = rw ((table_passes t).1 s, (no_key t x).1 h)

module _ (t : Table) (k : ℕ) (f : Fits (deletion k) t) (i : ℕ) (l : i < t.count)
    (g : goes (deletion k) t i ≡ true) where
  -- a row that goes is the named one, or one of the next size rows
  pub in_gap : (row_named (deletion k) t ≤ i) × (i < gap_of t (row_named (deletion k) t))
  unfolding gap_of
  in_gap =
      let r : ℕ = row_named (deletion k) t in
      ⊎_elim (λ e. let z : i ≡ row_named (deletion k) t = eqb-true i r e in (omega arith, omega arith))
      (λ e. let d = (sound_descendants t f.sound r i f.found l).0 e in (omega arith, omega arith))
      (either _ _ g)

  -- no row left has its key
  key_gone : NoKey (table_after (deletion k) t) (at t.key i)
  unfolding deleted gap_of
  key_gone j m e =
      let r : ℕ = row_named (deletion k) t in
      let by : ℕ = at t.size r + 1 in
      let q : r + by ≤ t.count = gap_fits t f.sound r f.found in
      let n : t.count ≤ length t.key = f.sound.in_use.in_key in
      let (a, b) = in_gap in
      elim (dec_lt j r) [
        | yes h ↦ omega (
          arith,
          one_row t f.sound j i (omega arith) l
              (sym (closed_stays r t.count by t.key j h (omega arith)) ∙ e),
        )
        | no h ↦
            let z : j + by - by ≡ j = omega arith in
            let o : j + by < t.count = omega arith in
            omega (
              arith,
              one_row t f.sound (j + by) i o l
                  (sym (closed_moves r t.count by t.key (j + by) (omega arith) o n)
                  ∙ ap (at (closed r t.count by t.key)) z ∙ e),
            )
      ]

-- the same of any edit: only a deletion has rows that go
after_gone : (a : Act) (t : Table) → Fits a t → (i : ℕ) → i < t.count → goes a t i ≡ true
    → NoKey (table_after a t) (at t.key i)
after_gone (insertion k p) t f i l g = absurd (false≢true g)
after_gone (deletion k) t f i l g = key_gone t k f i l g
after_gone (renaming k m) t f i l g = absurd (false≢true g)

-- the key of a row that goes is not found afterwards
pub gone : (a : Act) (t : Table) (d : Done) → (outcome a t).answer ≡ Ok d
    → (i : ℕ) → i < t.count → goes a t i ≡ true → find_outcome (outcome a t).table (at t.key i) ≡ Err UnknownKey
gone a t d e i l g =
    accepted_has (λ (d : Done) (u : Table). find_outcome u (at t.key i) ≡ Err UnknownKey) a t d e
    (λ f. not_found (table_after a t) (after_sound a t f) (at t.key i) (after_gone a t f i l g))
