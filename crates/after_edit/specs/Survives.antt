-- Where a row stands after an accepted edit, and what it holds: RULES 01, "Finding and editing by key".
-- That every row that stays is found so is `row_again` and `found_again` (proofs/FoundAgain.antt), that it stands under
-- the row that it stood under `stays_under` (proofs/UnderAgain.antt); that the others are not found is `gone`
-- (proofs/GoneLaws.antt). Assumes nothing.
use Rattle.std.specs.Prelude.{ℕ, ◌<◌, ◌≡◌, Bool, false, cond, ◌||◌, ltb, eqb, ℤ, pos, ◌+ℤ◌}
use Rattle.tree.specs.Table.{Table, at}
use Rattle.tree.specs.Tree.{ancestor}
use Rattle.tree.specs.declared.Done.{Done}
use Rattle.after_edit.specs.Act.{Act, insertion, deletion, renaming, row_named}

-- row i in the new numbering: from the first moved row on rows move by the signed move, the others stay
abbrev pub moved_to : Done → ℕ → ℤ
moved_to d i = cond (ltb i d.first) (pos i) (pos i +ℤ d.moved)

-- row i goes: it is the deleted row or a descendant of it
abbrev pub goes : Act → Table → ℕ → Bool
goes (insertion k p) t i = false
goes (deletion k) t i = eqb i (row_named (deletion k) t) || ancestor t.level (row_named (deletion k) t) i
goes (renaming k m) t i = false

-- row i's size changes: it is the parent or an ancestor of it; of a deleted row, an ancestor
abbrev pub resizes : Act → Table → ℕ → Bool
resizes (insertion k p) t i = eqb i (row_named (insertion k p) t) || ancestor t.level i (row_named (insertion k p) t)
resizes (deletion k) t i = ancestor t.level i (row_named (deletion k) t)
resizes (renaming k m) t i = false

-- its name: the new one at the renamed row
abbrev pub name_after : Act → Table → ℕ → ℕ
name_after (insertion k p) t i = at t.name i
name_after (deletion k) t i = at t.name i
name_after (renaming k m) t i = cond (eqb i (row_named (renaming k m) t)) m (at t.name i)

-- row i of the table t is row w of the table u that the edit a leaves, with the answer d: nothing in it changes but the
-- size of the parent and of its ancestors, by the number of rows that came or went, and the name of the renamed row
pub record Survives (a : Act) (d : Done) (t u : Table) (i w : ℕ) : Type 0 where
  pub moved : pos w ≡ moved_to d i
  pub in_use : w < u.count
  pub key : at u.key w ≡ at t.key i
  pub size : pos (at u.size w) ≡ cond (resizes a t i) (pos (at t.size i) +ℤ d.moved) (pos (at t.size i))
  pub level : at u.level w ≡ at t.level i
  pub kind : at u.kind w ≡ at t.kind i
  pub name : at u.name w ≡ name_after a t i
