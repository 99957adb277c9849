-- Demand 3, `either_order`, for all nine pairs of an insertion, a deletion or a renaming with another.
-- If each is accepted on the same starting table, the rows that they name differ and neither is an ancestor of the
-- other, no key is in both pieces, and the limit of 4,096 rows and the shortest column have room for both
-- (`Independent`, specs/Independent.antt), then both orders are accepted, and the rows in use that they leave are the
-- same in all five columns. They are those that the definitions give for the two in turn: `in_turn_is`.
-- Spare rows may differ. Assumes nothing.
use mathlib.Core.Path.{◌≡◌}
use Rattle.tree.specs.Table.{Table, SameRows}
use Rattle.after_edit.specs.Act.{Act, Accepted, table_after}
use Rattle.after_edit.specs.Independent.{Independent, in_turn}
use Rattle.after_edit.proofs.ActLaws.{Fits, fits_accepted, accepted_table, after_sound}
use Rattle.after_edit.proofs.InTurnLaws.{fits_after, nodes_same, same_rows, flipped}

-- the two in turn leave the table that the definitions give for them
pub in_turn_is : (a b : Act) (t : Table) → Independent a b t → (in_turn a b t).table ≡ table_after b (table_after a t)
in_turn_is a b t i =
    rw (accepted_table a t i.accepted_a)
    (accepted_table b (table_after a t) (fits_accepted b (table_after a t) (fits_after a b t i)))

-- b is accepted after a
accepted_after : (a b : Act) (t : Table) → Independent a b t → Accepted (in_turn a b t)
accepted_after a b t i =
    rw (accepted_table a t i.accepted_a) (fits_accepted b (table_after a t) (fits_after a b t i))

-- both orders are accepted, and leave the same rows in use in all five columns
pub either_order : (a b : Act) (t : Table) → Independent a b t
    → Accepted (in_turn a b t) × Accepted (in_turn b a t) × SameRows (in_turn a b t).table (in_turn b a t).table
either_order a b t i =
    let j : Independent b a t = flipped a b t i in
    let x : Fits b (table_after a t) = fits_after a b t i in
    let y : Fits a (table_after b t) = fits_after b a t j in
    let same : SameRows (table_after b (table_after a t)) (table_after a (table_after b t)) =
    same_rows _ _ (after_sound b (table_after a t) x) (after_sound a (table_after b t) y) (nodes_same a b t i x y) in
    (accepted_after a b t i, accepted_after b a t j, rw (in_turn_is a b t i, in_turn_is b a t j) same)
