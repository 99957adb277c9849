-- A list of changes in another order: demand 3 over lists, RULES 02, E4. Theorems: proofs/AnyOrder.antt.
-- Assumes nothing.
use Rattle.std.specs.Prelude.{◌≡◌, List, [], ◌∷◌}
use Rattle.tree.specs.Table.{Table, SameRows}
use Rattle.tree.specs.Batch.{item_outcome, BatchOutcome}
use Rattle.tree.specs.declared.Item.{Item}
use Rattle.after_edit.specs.Act.{Accepted}
use Rattle.after_edit.specs.Independent.{Independent}
use Rattle.batch.specs.Prefix.{act_of}

-- two lists end alike: they give the same answer, that is the number done, the count and what ended them, and leave the
-- same rows in use
pub record EndAlike (o q : BatchOutcome) : Type 0 where
  pub answer : o.answer ≡ q.answer
  pub rows : SameRows o.table q.table

-- the item a is independent, by demand 3, of each of these items on the table t
abbrev pub IndependentOfAll : Item → List Item → Table → Type 0
IndependentOfAll a [] t = Unit {0}
IndependentOfAll a (b ∷ bs) t = Independent (act_of a) (act_of b) t × IndependentOfAll a bs t

-- each of these items is accepted on the table t, and any two of them, at different places, are independent on it
abbrev pub Pairwise : List Item → Table → Type 0
Pairwise [] t = Unit {0}
Pairwise (i ∷ is) t = Accepted (item_outcome t i) × IndependentOfAll i is t × Pairwise is t

-- the one list is the other in another order: reached by exchanges of neighbours
pub data Reordered : List Item → List Item → Type 0 where
  same : {is : List Item} → Reordered is is
  exchanged : {a b : Item} {is : List Item} → Reordered (a ∷ b ∷ is) (b ∷ a ∷ is)
  later : {i : Item} {is js : List Item} → Reordered is js → Reordered (i ∷ is) (i ∷ js)
  twice : {is js ks : List Item} → Reordered is js → Reordered js ks → Reordered is ks
