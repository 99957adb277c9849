-- An edit as one thing: RULES 01, "Finding and editing by key". Its outcome, when it is accepted, what it names and
-- brings. Assumes nothing.
use Rattle.std.specs.Prelude.{ℕ, ◌≡◌, List, [], Ok}
use Rattle.tree.specs.Table.{Table}
use Rattle.tree.specs.Sound.{row_of}
use Rattle.tree.specs.Edit.{inserted, deleted, renamed, insert_done, delete_done, rename_done}
use Rattle.tree.specs.Outcome.{EditOutcome, insert_outcome, delete_outcome, rename_outcome}
use Rattle.tree.specs.declared.Done.{Done}

-- an insertion: the parent's key and the piece; a deletion: the key; a renaming: the key and the new name
pub data Act : Type 0 where
  insertion : ℕ → Table → Act
  deletion : ℕ → Act
  renaming : ℕ → ℕ → Act

-- what the call answers and what it leaves in the columns
abbrev pub outcome : Act → Table → EditOutcome
outcome (insertion k p) t = insert_outcome t k p
outcome (deletion k) t = delete_outcome t k
outcome (renaming k m) t = rename_outcome t k m

-- it was accepted: the answer is no refusal
abbrev pub Accepted : EditOutcome → Type 0
Accepted o = (d : Done) × (o.answer ≡ Ok d)

-- the key that the edit names
abbrev pub key_of : Act → ℕ
key_of (insertion k p) = k
key_of (deletion k) = k
key_of (renaming k m) = k

-- the row that it names in a table
abbrev pub row_named : Act → Table → ℕ
row_named a t = row_of t.key t.count (key_of a)

-- how many rows it brings: the piece's count
abbrev pub brings : Act → ℕ
brings (insertion k p) = p.count
brings (deletion k) = 0
brings (renaming k m) = 0

-- the key column of what it brings, with so many rows in use
abbrev pub new_keys : Act → List ℕ
new_keys (insertion k p) = p.key
new_keys (deletion k) = []
new_keys (renaming k m) = []

-- the table that 01's definitions give where it is accepted
abbrev pub table_after : Act → Table → Table
table_after (insertion k p) t = inserted t (row_of t.key t.count k) p
table_after (deletion k) t = deleted t (row_of t.key t.count k)
table_after (renaming k m) t = renamed t (row_of t.key t.count k) m

-- and the answer
abbrev pub done_of : Act → Table → Done
done_of (insertion k p) t = insert_done t (row_of t.key t.count k) p
done_of (deletion k) t = delete_done t (row_of t.key t.count k)
done_of (renaming k m) t = rename_done t
