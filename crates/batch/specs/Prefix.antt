-- The front of a list of changes: RULES 02, E4. What the items of a list do that are all accepted, and what is so of
-- the item after them. Theorems: proofs/BatchLaws.antt. Assumes nothing.
use Rattle.std.specs.Prelude.{ℕ, ◌≤◌, ◌≡◌, ◌↔◌, cond, List, [], ◌∷◌, eqb, length, take, drop, Err}
use Rattle.tree.specs.Table.{Table, at}
use Rattle.tree.specs.Batch.{item, item_outcome}
use Rattle.tree.specs.declared.Item.{Item}
use Rattle.after_edit.specs.Act.{Act, deletion, renaming, Accepted}
use Rattle.tree.specs.declared.Refusal.{Refusal}

-- the edit that an item asks for
abbrev pub act_of : Item → Act
act_of i = cond (eqb i.code 1) (deletion i.key) (renaming i.key i.name)

-- the item at place n of the three columns
abbrev pub item_at : List ℕ → List ℕ → List ℕ → ℕ → Item
item_at code key name n = item (at code n) (at key n) (at name n)

-- each of these items is accepted in turn, from the table t on
abbrev pub AllAccepted : List Item → Table → Type 0
AllAccepted [] t = Unit {0}
AllAccepted (i ∷ is) t = Accepted (item_outcome t i) × AllAccepted is (item_outcome t i).table

-- the table that they leave, one by one
unfoldable pub table_after_all : List Item → Table → Table
table_after_all [] t = t
table_after_all (i ∷ is) t = table_after_all is (item_outcome t i).table

-- from the table t on the longest front of the list that is all accepted has n items: a front is accepted exactly if
-- it has at most n
pub record LongestAccepted (is : List Item) (t : Table) (n : ℕ) : Type 0 where
  pub within : n ≤ length is
  pub longest : (m : ℕ) → m ≤ length is → AllAccepted (take m is) t ↔ (m ≤ n)

-- the item at place n of the list gets this refusal on the table u, and leaves u as it is
pub record RefusedAt (is : List Item) (n : ℕ) (u : Table) (why : Refusal) : Type 0 where
  pub here : Item
  pub rest : List Item
  pub place : drop n is ≡ here ∷ rest
  pub answer : (item_outcome u here).answer ≡ Err why
  pub unchanged : (item_outcome u here).table ≡ u
