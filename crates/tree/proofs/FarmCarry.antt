-- Pairs of the small farm carried over its edits, and each refusal and boundary that RULES 02, E1 names, as one table
-- of calls with what each gives, `cases`, and one theorem, `farm_carries`. Assumes nothing.
use Prim.Native.Nat.{ℕ}
use mathlib.Core.Path.{◌≡◌, refl}
use mathlib.Core.List.{List, [], ◌∷◌, ◌++◌, map}
use lib.IntN.{ℤ, pos, negsuc}
use lib.ListN.{length, replicate}
use Rattle.tree.specs.Search.{least}
use Rattle.tree.specs.Pairs.{pairs_of, roles_of, rows_of, before, out_of_order}
use Rattle.tree.specs.Refusal.{given, given_at, next, pair_check, room_check}
use Rattle.tree.specs.Outcome.{overwritten}
use Rattle.tree.specs.Carry.{was_deleted, carried_by, carried, old_count_ok, move_ok}
use Rattle.tree.specs.Carry.{CarryOutcome, carry_if, carry_check, carry_outcome}
use Rattle.tree.specs.Number.{told}
use Rattle.std.specs.Prelude.{Result, Ok, Err}

-- pairs, the old count, the first moved row and the move; the result columns have room for so many, and hold 77 and 88
pub record Call : Type 0 where
  pub role : List ℕ
  pub row : List ℕ
  pub old : ℕ
  pub first : ℕ
  pub moved : ℤ
  pub roles : ℕ
  pub rows : ℕ

-- what it gives, a refusal by number and place
pub record Gives : Type 0 where
  pub answer : Result ℕ (ℕ × ℕ)
  pub role : List ℕ
  pub row : List ℕ

abbrev pub carry_gives : CarryOutcome → Gives
carry_gives o = record { answer = told o.answer; role = o.role; row = o.row }

abbrev pub run : Call → Gives
run c =
    carry_gives (carry_outcome c.role c.row c.old c.first c.moved (replicate c.roles 77) (replicate c.rows 88))

-- a call and what it gives
pub record Case : Type 0 where
  pub call : Call
  pub gives : Gives

-- columns of 4 with this list in front
abbrev pub gives : ℕ → List ℕ → List ℕ → Gives
gives rest role row =
    record { answer = Ok (length role); role = role ++ replicate rest 77; row = row ++ replicate rest 88 }

-- refused, with columns for so many as they were
abbrev pub refuses : ℕ → ℕ → ℕ → ℕ → Gives
refuses number place roles rows =
    record { answer = Err (number, place); role = replicate roles 77; row = replicate rows 88 }

-- these pairs in a table of so many rows, with room for 4
abbrev pub pairs : List ℕ → List ℕ → ℕ → ℕ → ℤ → Call
pairs role row old first moved =
    record { role = role; row = row; old = old; first = first; moved = moved; roles = 4; rows = 4 }

-- the farm's pairs (5,1), (5,2), (7,6) over an edit of the farm, with room for so many
abbrev pub farm_pairs : ℕ → ℤ → ℕ → ℕ → Call
farm_pairs first moved roles rows = record {
  role = 5 ∷ 5 ∷ 7 ∷ [];
  row = 1 ∷ 2 ∷ 6 ∷ [];
  old = 10;
  first = first;
  moved = moved;
  roles = roles;
  rows = rows;
}

-- the calls, with what each gives
abbrev pub cases : List Case
cases =
    -- M9, a deletion of rows 2 and 3; M10, an insertion before row 9; a renaming
    record { call = farm_pairs 4 (negsuc 1) 4 4; gives = gives 2 (5 ∷ 7 ∷ []) (1 ∷ 4 ∷ []) } ∷
    record {
      call = pairs (5 ∷ 7 ∷ 7 ∷ []) (2 ∷ 8 ∷ 9 ∷ []) 10 9 (pos 1);
      gives = gives 1 (5 ∷ 7 ∷ 7 ∷ []) (2 ∷ 8 ∷ 10 ∷ []);
    } ∷
    record { call = farm_pairs 10 (pos 0) 4 4; gives = gives 1 (5 ∷ 5 ∷ 7 ∷ []) (1 ∷ 2 ∷ 6 ∷ []) } ∷
    -- the deleted rows are 1 to 5: both ends, and the rows beside them
    record {
      call = pairs (5 ∷ 5 ∷ 5 ∷ 5 ∷ []) (0 ∷ 1 ∷ 5 ∷ 6 ∷ []) 10 6 (negsuc 4);
      gives = gives 2 (5 ∷ 5 ∷ []) (0 ∷ 1 ∷ []);
    } ∷
    -- edits at the very end: the first moved row is the old count
    record { call = farm_pairs 10 (pos 1) 4 4; gives = gives 1 (5 ∷ 5 ∷ 7 ∷ []) (1 ∷ 2 ∷ 6 ∷ []) } ∷
    record { call = pairs (1 ∷ 1 ∷ []) (0 ∷ 1 ∷ []) 2 2 (negsuc 0); gives = gives 3 (1 ∷ []) (0 ∷ []) } ∷
    -- no pairs; equal pairs stay equal; a move of 0 with a smaller first moved row, which no edit answers
    record { call = pairs [] [] 10 4 (negsuc 1); gives = gives 4 [] [] } ∷
    record {
      call = pairs (5 ∷ 5 ∷ []) (6 ∷ 6 ∷ []) 10 4 (negsuc 1);
      gives = gives 2 (5 ∷ 5 ∷ []) (4 ∷ 4 ∷ []);
    } ∷
    record { call = farm_pairs 2 (pos 0) 4 4; gives = gives 1 (5 ∷ 5 ∷ 7 ∷ []) (1 ∷ 2 ∷ 6 ∷ []) } ∷
    -- 1: the old count is 0 or above 4,096, also where 3 applies
    record { call = pairs [] [] 0 1 (pos 1); gives = refuses 1 0 4 4 } ∷
    record { call = pairs (5 ∷ []) [] 4097 1 (pos 0); gives = refuses 1 0 4 4 } ∷
    record { call = pairs (5 ∷ []) (4095 ∷ []) 4096 4096 (pos 0); gives = gives 3 (5 ∷ []) (4095 ∷ []) } ∷
    -- 3, also where 17 applies, and where 4 does; 4 before 5; 5 before 17
    record { call = pairs (5 ∷ 5 ∷ []) (1 ∷ []) 10 0 (pos 0); gives = refuses 3 0 4 4 } ∷
    record { call = pairs (5 ∷ 4 ∷ []) (1 ∷ []) 10 1 (pos 0); gives = refuses 3 0 4 4 } ∷
    record { call = pairs (5 ∷ 5 ∷ 4 ∷ []) (10 ∷ 9 ∷ 9 ∷ []) 10 1 (pos 0); gives = refuses 4 1 4 4 } ∷
    record { call = pairs (5 ∷ 5 ∷ []) (9 ∷ 10 ∷ []) 10 0 (pos 0); gives = refuses 5 1 4 4 } ∷
    -- 17: the first moved row is 0, or above the old count; also for an empty list, and before 8
    record { call = farm_pairs 0 (pos 1) 4 4; gives = refuses 17 0 4 4 } ∷
    record { call = farm_pairs 11 (pos 1) 2 4; gives = refuses 17 0 2 4 } ∷
    record { call = pairs [] [] 10 0 (pos 0); gives = refuses 17 0 4 4 } ∷
    -- 17: it falls below 0 once the move is added; at 0 all rows before it go, at 1 all of them but row 0
    record { call = farm_pairs 4 (negsuc 4) 4 4; gives = refuses 17 0 4 4 } ∷
    record { call = farm_pairs 4 (negsuc 3) 4 4; gives = gives 3 (7 ∷ []) (2 ∷ []) } ∷
    record { call = farm_pairs 4 (negsuc 2) 4 4; gives = gives 3 (7 ∷ []) (3 ∷ []) } ∷
    -- 17: no row would be left; one is enough
    record { call = farm_pairs 10 (negsuc 9) 4 4; gives = refuses 17 0 4 4 } ∷
    record { call = farm_pairs 9 (negsuc 8) 4 4; gives = gives 4 [] [] } ∷
    -- 17: the new count would be 4,097; 4,096 is fine
    record { call = pairs (5 ∷ []) (4095 ∷ []) 4096 1 (pos 1); gives = refuses 17 0 4 4 } ∷
    record { call = pairs (5 ∷ []) (4094 ∷ []) 4095 1 (pos 1); gives = gives 3 (5 ∷ []) (4095 ∷ []) } ∷
    -- 17: the greatest and the least move
    record { call = farm_pairs 4 (pos 9223372036854775807) 4 4; gives = refuses 17 0 4 4 } ∷
    record { call = farm_pairs 4 (negsuc 9223372036854775807) 4 4; gives = refuses 17 0 4 4 } ∷
    -- 8: the new list, not the old one, is held against the shorter column
    record {
      call = farm_pairs 4 (negsuc 1) 2 3;
      gives = record {
        answer = Ok 2;
        role = 5 ∷ 7 ∷ [];
        row = 1 ∷ 4 ∷ 88 ∷ [];
      };
    } ∷
    record { call = farm_pairs 4 (negsuc 1) 3 1; gives = refuses 8 2 3 1 } ∷
    record { call = farm_pairs 4 (pos 2) 2 9; gives = refuses 8 3 2 9 } ∷
    record { call = farm_pairs 4 (pos 2) 0 0; gives = refuses 8 3 0 0 } ∷
    []

-- each call gives what its case says
pub farm_carries : map (λ c. run c.call) cases ≡ map (λ c. c.gives) cases
unfolding carry_outcome carry_check carry_if move_ok old_count_ok carried carried_by was_deleted overwritten given
    given_at next pair_check room_check pairs_of roles_of rows_of before out_of_order least
farm_carries = refl
