-- `marks::row_set::drain_word` meets its contract. The loop's invariant: for some bit of the word, the rows before it
-- that fit are written, and the rest has the word's bits from there on. The measure is the rest. Assumes nothing.
use Rattle.scan.specs.Want.{accepts}
use Rattle.marks.proofs.WordLaws.{WordWalk}
use Rattle.marks.proofs.row_set.drain_word.Given as goal

abbrev pub invariant-loop-rest : goal.invariant-loop-rest
invariant-loop-rest l =
    WordWalk (accepts l.test) l.base l.word l.initial.out l.out l.rest l.at

abbrev pub decreases-loop-rest : goal.decreases-loop-rest
decreases-loop-rest l = l.rest
