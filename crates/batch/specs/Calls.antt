-- The calls of a list of changes as a caller would make them without the list: RULES 02, E4, "The outcome equals the
-- calls made one by one in list order". Each is a call of `delete` or `rename`, and what it answers and leaves is
-- what their contract says (`EditLeaves`, edit_at/specs). That the list gives the same is `one_by_one_calls`, and
-- that there are such calls `calls_there` (proofs/BatchLaws.antt). Assumes nothing.
use Rattle.std.specs.Prelude.{ℕ, suc, List, [], ◌∷◌, Err, Ok}
use Rattle.tree.specs.Table.{Table, table_of}
use Rattle.tree.specs.Batch.{item_outcome}
use Rattle.tree.specs.declared.Done.{Done}
use Rattle.tree.specs.declared.Item.{Item}
use Rattle.edit_at.specs.EditLeaves.{EditLeaves}
use Rattle.tree.specs.Refusal.{Checked, passed}
use Rattle.tree.specs.declared.Refusal.{Refusal}

-- the calls of the items from a table on: how many were done, what ended them, and the table that is left
pub data Calls : List Item → Table → ℕ → Checked → Table → Type 0 where
  -- no item is left
  over : {t : Table} → Calls [] t 0 passed t
  -- the call of the first item is accepted: the next one is made with the columns that it leaves and the count that it
  -- answers
  accepted : {i : Item} {is : List Item} {t last : Table} {d : Done} {key size level kind name : List ℕ} {n : ℕ}
      {end : Checked} → EditLeaves (item_outcome t i) (Ok d) key size level kind name
      → Calls is (table_of key size level kind name d.count) n end last → Calls (i ∷ is) t (suc n) end last
  -- the call of the first item is refused: no other is made, and the count is what it was
  refused : {i : Item} {is : List Item} {t : Table} {why : Refusal} {key size level kind name : List ℕ}
      → EditLeaves (item_outcome t i) (Err why) key size level kind name
      → Calls (i ∷ is) t 0 (Err why) (table_of key size level kind name t.count)
