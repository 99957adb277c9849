-- The outcome of an edit at a row, by its own check: `own_refused`, `own_passed`. What is left of the columns by an
-- outcome: `leaves`. The checks of an edit by key, on a sound table: 9 where no row has the key, `key_unknown`, else
-- the edit's own, `key_there`. Assumes nothing.
use mathlib.Core.Path.{◌≡◌, sym, ap}
use Prim.Native.Nat.{ℕ, ◌<◌, ◌≤◌}
use borrow.Author.Tests.{lt-ltb, le-ltb}
use Rattle.tree.specs.Table.{Table}
use Rattle.tree.specs.Sound.{row_of}
use Rattle.tree.specs.Rules.{Sound}
use Rattle.tree.specs.Refusal.{given, next, key_check, Checked, passed}
use Rattle.tree.specs.Outcome.{EditOutcome, edit_if, edit_check, Edited}
use Rattle.tree.specs.declared.Done.{Done}
use Rattle.tree.proofs.SoundLaws.{table_passes}
use Rattle.edit_at.specs.EditLeaves.{EditLeaves}
use Rattle.std.specs.Prelude.{Ok, Err}
use Rattle.tree.specs.declared.Refusal.{Refusal}
use Rattle.tree.specs.declared.Refusal.TheVariants.{UnknownKey}

-- a refusal, and the table as it was
abbrev pub refused : Table → Refusal → EditOutcome
refused t why = record { answer = Err why; table = t }

-- the edit was made, and left the table t
abbrev pub made : Done → Table → EditOutcome
made d t = record { answer = Ok d; table = t }

-- what an outcome leaves
pub leaves : {o : EditOutcome} {a : Edited} (t : Table) → o ≡ record { answer = a; table = t }
    → EditLeaves o a t.key t.size t.level t.kind t.name
leaves t e = record {
  answers = ap (λ (o : EditOutcome). o.answer) (sym e);
  key_is = ap (λ (o : EditOutcome). o.table.key) (sym e);
  size_is = ap (λ (o : EditOutcome). o.table.size) (sym e);
  level_is = ap (λ (o : EditOutcome). o.table.level) (sym e);
  kind_is = ap (λ (o : EditOutcome). o.table.kind) (sym e);
  name_is = ap (λ (o : EditOutcome). o.table.name) (sym e);
}

-- ── the edit's own check ──
pub own_refused : {c : Checked} (d : Done) (t' t : Table) {why : Refusal} → c ≡ Err why
    → edit_if c d t' t ≡ refused t why
unfolding edit_if
own_refused d t' t e = ap (λ (c : Checked). edit_if c d t' t) e

pub own_passed : {c : Checked} (d : Done) (t' t : Table) → c ≡ passed → edit_if c d t' t ≡ made d t'
unfolding edit_if
own_passed d t' t e = ap (λ (c : Checked). edit_if c d t' t) e

-- ── the checks before it ──
module _ (t : Table) (s : Sound t) (k : ℕ) (own : Checked) where
  pub key_unknown : t.count ≤ row_of t.key t.count k → edit_check t k own ≡ Err UnknownKey
  unfolding edit_check key_check next given
  key_unknown l = rw ((table_passes t).1 s, le-ltb _ _ l)

  pub key_there : row_of t.key t.count k < t.count → edit_check t k own ≡ own
  unfolding edit_check key_check next given
  key_there l = rw ((table_passes t).1 s, lt-ltb _ _ l)
