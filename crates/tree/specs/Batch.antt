-- A weekend's changes in one call: RULES 02, E4. A list of deletions and renames, done one by one in list order, by the
-- outcomes that the two calls have, until one is refused. What that means: batch/proofs/BatchLaws.antt. Assumes
-- nothing.
use Rattle.std.specs.Prelude.{ℕ, suc, Bool, cond, not, Ok, Err, ◌||◌, List, [], ◌∷◌, ltb, eqb, length}
use Rattle.tree.specs.Search.{some_below}
use Rattle.tree.specs.Table.{Table, at}
use Rattle.tree.specs.Refusal.{Checked, passed, given, next, table_check}
use Rattle.tree.specs.Outcome.{Edited, EditOutcome, delete_outcome, rename_outcome}
use Rattle.tree.specs.declared.Refusal.TheVariants.{BadList}
use Rattle.tree.specs.declared.Item.{Item}
use Rattle.tree.specs.declared.Batched.{Batched}

-- the most items of a list
abbrev pub most_items : ℕ
most_items = 256

-- the code, the key and the name of an item as one
abbrev pub item : ℕ → ℕ → ℕ → Item
item c k m = record { code = c; key = k; name = m }

-- three columns as one list
unfoldable pub items_of : List ℕ → List ℕ → List ℕ → List Item
items_of [] ks ms = []
items_of (c ∷ cs) [] ms = []
items_of (c ∷ cs) (k ∷ ks) [] = []
items_of (c ∷ cs) (k ∷ ks) (m ∷ ms) = item c k m ∷ items_of cs ks ms

-- the call of an item: what it answers and leaves. Code 1 deletes, whatever the name; any other renames, which is 2
-- where the list was checked
unfoldable pub item_outcome : Table → Item → EditOutcome
item_outcome t i = cond (eqb i.code 1) (delete_outcome t i.key) (rename_outcome t i.key i.name)

-- what a list answers, and the table as it leaves it
pub record BatchOutcome : Type 0 where
  pub answer : Batched
  pub table : Table

-- so many items were done, this ended the list, and it leaves the table t
abbrev pub ended : ℕ → Checked → Table → BatchOutcome
ended done end t = record { answer = record { done = done; count = t.count; end = end }; table = t }

-- an item after so many that were done, by its answer and the table that it leaves: a refusal ends the list
unfoldable pub unless_refused : Edited → ℕ → Table → BatchOutcome → BatchOutcome
unless_refused (Ok d) done t later = later
unless_refused (Err why) done t later = ended done (Err why) t

-- the calls of these items one by one from the table t on, after so many that were done
unfoldable pub one_by_one : ℕ → List Item → Table → BatchOutcome
one_by_one done [] t = ended done passed t
one_by_one done (i ∷ is) t =
    unless_refused (item_outcome t i).answer done (item_outcome t i).table
    (one_by_one (suc done) is (item_outcome t i).table)

-- the code at place i is neither 1 nor 2
abbrev pub wrong_code : List ℕ → ℕ → Bool
wrong_code code i = not (eqb (at code i) 1 || eqb (at code i) 2)

-- 18: columns of unequal length, more than `most_items`, or a wrong code at any place
unfoldable pub list_check : List ℕ → List ℕ → List ℕ → Checked
list_check code key name =
    given (not (eqb (length code) (length key)) || not (eqb (length code) (length name)) || ltb most_items (length code)
    || some_below (wrong_code code) (length code)) BadList

-- refusal 1 or 2, then 18
unfoldable pub batch_check : Table → List ℕ → List ℕ → List ℕ → Checked
batch_check t code key name = next (table_check t) (list_check code key name)

-- the list that was checked: what its calls answer and leave, or the refusal with nothing done
unfoldable pub batch_if : Checked → BatchOutcome → Table → BatchOutcome
batch_if (Ok u) o t = o
batch_if (Err why) o t = ended 0 (Err why) t

-- what a list of changes answers and leaves
unfoldable pub batch_outcome : Table → List ℕ → List ℕ → List ℕ → BatchOutcome
batch_outcome t code key name =
    batch_if (batch_check t code key name) (one_by_one 0 (items_of code key name) t) t
