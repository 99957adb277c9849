-- The number and the place of each refusal: RULES 01, "Refusal numbers"; 17 and 18 are of RULES 02, E1 and E4. When a
-- call is told which number and place is in proofs/ToldRefusals.antt. Assumes nothing.
use Rattle.std.specs.Prelude.{ℕ, Result, Ok, Err}
use Rattle.tree.specs.declared.Refusal.{Refusal}
use Rattle.tree.specs.declared.Refusal.TheVariants.{BadCount, UnsoundRow, BadPairColumns, PairOutOfOrder}
use Rattle.tree.specs.declared.Refusal.TheVariants.{PairOutsideTable, BadAxis, BadTest, TooManyResults, UnknownKey}
use Rattle.tree.specs.declared.Refusal.TheVariants.{BadPiece, NotAParent, TooDeep, KeyTaken, NoRoom, DeletesRoot}
use Rattle.tree.specs.declared.Refusal.TheVariants.{BadRename, BadMove, BadList}

-- 1 to 18
abbrev pub number : Refusal → ℕ
number BadCount = 1
number (UnsoundRow p) = 2
number BadPairColumns = 3
number (PairOutOfOrder p) = 4
number (PairOutsideTable p) = 5
number BadAxis = 6
number BadTest = 7
number (TooManyResults p) = 8
number UnknownKey = 9
number BadPiece = 10
number (NotAParent p) = 11
number TooDeep = 12
number (KeyTaken p) = 13
number NoRoom = 14
number DeletesRoot = 15
number (BadRename p) = 16
number BadMove = 17
number BadList = 18

-- a row, a place among the pairs, a number of results, or 0
abbrev pub place : Refusal → ℕ
place (UnsoundRow p) = p
place (PairOutOfOrder p) = p
place (PairOutsideTable p) = p
place (TooManyResults p) = p
place (NotAParent p) = p
place (KeyTaken p) = p
place (BadRename p) = p
place _ = 0

-- an answer in numbers: what was accepted, or the refusal's number and place
abbrev pub told : {A : Type 0} → Result A Refusal → Result A (ℕ × ℕ)
told (Ok a) = Ok a
told (Err why) = Err (number why, place why)
