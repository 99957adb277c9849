-- What the cases of the small farm (Farm, FarmKinds, FarmFind, FarmEdits, FarmRefusals) are made of: the farm and
-- other tables, the calls, what they give, and short forms of both. Assumes nothing.
use Prim.Native.Nat.{ℕ, zero, suc, ◌-◌}
use mathlib.Core.List.{List, [], ◌∷◌, ◌++◌, map}
use lib.IntN.{ℤ}
use lib.ListN.{length, replicate}
use Rattle.tree.specs.Table.{Table, table_of}
use Rattle.tree.specs.Step.{Ask, ask_of}
use Rattle.tree.specs.Number.{told}
use Rattle.tree.specs.Outcome.{StepOutcome, EditOutcome, check_outcome, find_outcome, step_outcome}
use Rattle.tree.specs.Outcome.{insert_outcome, delete_outcome, rename_outcome}
use Rattle.tree.specs.declared.Located.TheVariants.{Root, Under}
use Rattle.tree.specs.declared.Located.{Located}
use Rattle.tree.specs.declared.Tally.{Tally}
use Rattle.tree.specs.declared.Done.{Done}
use Rattle.std.specs.Prelude.{Result, Ok, Err}

-- ── the farm, with two spare rows ──
abbrev pub farm : Table
farm =
    table_of
    (10 ∷ 20 ∷ 21 ∷ 22 ∷ 23 ∷ 24 ∷ 30 ∷ 31 ∷ 32 ∷ 40 ∷ 91 ∷ 92 ∷ [])
    (9 ∷ 4 ∷ 1 ∷ 0 ∷ 1 ∷ 0 ∷ 2 ∷ 1 ∷ 0 ∷ 0 ∷ 93 ∷ 94 ∷ [])
    (0 ∷ 1 ∷ 2 ∷ 3 ∷ 2 ∷ 3 ∷ 1 ∷ 2 ∷ 3 ∷ 1 ∷ 95 ∷ 96 ∷ [])
    (1 ∷ 1 ∷ 1 ∷ 1 ∷ 1 ∷ 1 ∷ 1 ∷ 1 ∷ 1 ∷ 3 ∷ 97 ∷ 98 ∷ [])
    (1 ∷ 2 ∷ 3 ∷ 4 ∷ 3 ∷ 4 ∷ 2 ∷ 3 ∷ 4 ∷ 0 ∷ 99 ∷ 90 ∷ [])
    10

-- M10's piece
abbrev pub leaf : Table
leaf = table_of (50 ∷ []) (0 ∷ []) (0 ∷ []) (1 ∷ []) (4 ∷ []) 1

-- 64 rows, each under the one before; and 65
abbrev pub up_to : ℕ → List ℕ → List ℕ
up_to zero tail = tail
up_to (suc n) tail = up_to n (n ∷ tail)

abbrev pub down_from : ℕ → List ℕ
down_from zero = []
down_from (suc n) = n ∷ down_from n

abbrev pub ladder : ℕ → Table
ladder n = table_of (map suc (up_to n [])) (down_from n) (up_to n []) (replicate n 1) (replicate n 1) n

-- ── calls, and what they give ──
pub data Call : Type 0 where
  check : Table → Call
  step : Table → List ℕ → List ℕ → Ask → List ℕ → List ℕ → Call
  find : Table → ℕ → Call
  insert : Table → ℕ → Table → Call
  delete : Table → ℕ → Call
  rename : Table → ℕ → ℕ → Call
  insert_then_delete : Table → ℕ → Table → ℕ → Call
  delete_then_insert : Table → ℕ → ℕ → Table → Call

-- refusals by number and place
pub data Gives : Type 0 where
  checked : Result Unit (ℕ × ℕ) → Gives
  stepped : Result Tally (ℕ × ℕ) → List ℕ → List ℕ → Gives
  found : Result Located (ℕ × ℕ) → Gives
  edited : Result Done (ℕ × ℕ) → Table → Gives

abbrev pub step_gives : StepOutcome → Gives
step_gives o = stepped (told o.answer) o.role o.row

abbrev pub edit_gives : EditOutcome → Gives
edit_gives o = edited (told o.answer) o.table

abbrev pub run : Call → Gives
run (check t) = checked (told (check_outcome t))
run (step t role row a outRole outRow) = step_gives (step_outcome t role row a outRole outRow)
run (find t k) = found (told (find_outcome t k))
run (insert t k p) = edit_gives (insert_outcome t k p)
run (delete t k) = edit_gives (delete_outcome t k)
run (rename t k m) = edit_gives (rename_outcome t k m)
run (insert_then_delete t k p j) = edit_gives (delete_outcome (insert_outcome t k p).table j)
run (delete_then_insert t j k p) = edit_gives (insert_outcome (delete_outcome t j).table k p)

pub record Case : Type 0 where
  pub call : Call
  pub gives : Gives

-- ── short forms: the farm's pairs (5,1), (5,2), (7,6); result columns of 8 that hold 77 and 88 ──
abbrev pub farm_step : ℕ → ℕ → ℕ → Call
farm_step a t m = step farm (5 ∷ 5 ∷ 7 ∷ []) (1 ∷ 2 ∷ 6 ∷ []) (ask_of a t m) (replicate 8 77) (replicate 8 88)

abbrev pub lists : ℕ → ℕ → List ℕ → List ℕ → Gives
lists kept rest role row =
    stepped (Ok (record { listed = kept_free role; kept = kept })) (role ++ replicate rest 77)
    (row ++ replicate rest 88)
  where
    kept_free : List ℕ → ℕ
    kept_free [] = 0
    kept_free (x ∷ xs) = suc (kept_free xs)

abbrev pub refuses : ℕ → ℕ → Gives
refuses number place = stepped (Err (number, place)) (replicate 8 77) (replicate 8 88)

abbrev pub makes : ℕ → ℕ → ℤ → Table → Gives
makes n f d t = edited (Ok (record { count = n; first = f; moved = d })) t

-- a row found: a root, or a row with its level and its parent's row
abbrev pub a_root : ℕ → Gives
a_root r = found (Ok (Root r))

abbrev pub a_child : ℕ → ℕ → ℕ → Gives
a_child r l p = found (Ok (Under (record { row = r; level = l; parent = p })))

-- an edit refused: the table as it was
abbrev pub keeps : ℕ → ℕ → Table → Gives
keeps number place t = edited (Err (number, place)) t

-- the farm's columns with another count
abbrev pub counted : ℕ → Table
counted n = table_of farm.key farm.size farm.level farm.kind farm.name n

-- a row of each kind: document, element, text, comment, processing instruction
abbrev pub kinds : Table
kinds =
    table_of
    (1 ∷ 2 ∷ 3 ∷ 4 ∷ 5 ∷ [])
    (4 ∷ 3 ∷ 0 ∷ 0 ∷ 0 ∷ [])
    (0 ∷ 1 ∷ 2 ∷ 2 ∷ 2 ∷ [])
    (0 ∷ 1 ∷ 2 ∷ 3 ∷ 4 ∷ [])
    (0 ∷ 4 ∷ 0 ∷ 0 ∷ 9 ∷ [])
    5

-- from its root, the descendants and itself that pass a test
abbrev pub kind_step : ℕ → ℕ → Call
kind_step t m = step kinds (1 ∷ []) (0 ∷ []) (ask_of 4 t m) (replicate 8 77) (replicate 8 88)

-- two rows, no spare
abbrev pub leaf_under : Table
leaf_under = table_of (50 ∷ 60 ∷ []) (1 ∷ 0 ∷ []) (0 ∷ 1 ∷ []) (1 ∷ 2 ∷ []) (4 ∷ 0 ∷ []) 2

-- the table of M11, with what its row 10, a spare one, holds
abbrev pub both : ℕ → ℕ → ℕ → ℕ → ℕ → Table
both k s l d m =
    table_of
    (10 ∷ 20 ∷ 23 ∷ 24 ∷ 30 ∷ 31 ∷ 32 ∷ 50 ∷ 40 ∷ 0 ∷ k ∷ 92 ∷ [])
    (8 ∷ 2 ∷ 1 ∷ 0 ∷ 3 ∷ 2 ∷ 0 ∷ 0 ∷ 0 ∷ 0 ∷ s ∷ 94 ∷ [])
    (0 ∷ 1 ∷ 2 ∷ 3 ∷ 1 ∷ 2 ∷ 3 ∷ 3 ∷ 1 ∷ 0 ∷ l ∷ 96 ∷ [])
    (1 ∷ 1 ∷ 1 ∷ 1 ∷ 1 ∷ 1 ∷ 1 ∷ 1 ∷ 3 ∷ 0 ∷ d ∷ 98 ∷ [])
    (1 ∷ 2 ∷ 3 ∷ 4 ∷ 2 ∷ 3 ∷ 4 ∷ 4 ∷ 0 ∷ 0 ∷ m ∷ 90 ∷ [])
    9

-- ── rows of each kind, where an element and a processing instruction share the names 4 and 9 ──
-- row 0 a document; under it the elements 1 and 7; under row 1 a text, an instruction, the element 4 with the
-- instruction 5, and a comment; under row 7 the element 8, a cousin of rows 2, 3, 4 and 6
abbrev pub mixed : Table
mixed =
    table_of
    (1 ∷ 2 ∷ 3 ∷ 4 ∷ 5 ∷ 6 ∷ 7 ∷ 8 ∷ 9 ∷ [])
    (8 ∷ 5 ∷ 0 ∷ 0 ∷ 1 ∷ 0 ∷ 0 ∷ 1 ∷ 0 ∷ [])
    (0 ∷ 1 ∷ 2 ∷ 2 ∷ 2 ∷ 3 ∷ 2 ∷ 1 ∷ 2 ∷ [])
    (0 ∷ 1 ∷ 2 ∷ 4 ∷ 1 ∷ 4 ∷ 3 ∷ 1 ∷ 1 ∷ [])
    (0 ∷ 4 ∷ 0 ∷ 4 ∷ 9 ∷ 9 ∷ 0 ∷ 9 ∷ 4 ∷ [])
    9

-- a step on it, with result columns of 9
abbrev pub mixed_step : List ℕ → List ℕ → ℕ → ℕ → ℕ → Call
mixed_step role row a t m = step mixed role row (ask_of a t m) (replicate 9 77) (replicate 9 88)

-- all its rows that pass a test; and from one row, the rows on an axis
abbrev pub tested : ℕ → ℕ → Call
tested t m = mixed_step (1 ∷ []) (0 ∷ []) 4 t m

abbrev pub from_row : ℕ → ℕ → Call
from_row a c = mixed_step (1 ∷ []) (c ∷ []) a 0 0

-- role 1 has these rows; the kept count; and a refusal
abbrev pub reaches : ℕ → List ℕ → Gives
reaches kept row = lists kept (9 - length row) (map (λ w. 1) row) row

abbrev pub declines : ℕ → ℕ → Gives
declines number place = stepped (Err (number, place)) (replicate 9 77) (replicate 9 88)

-- ── tables and pieces for edits and refusals ──
-- a piece of two rows, a text in an element, with a spare row
abbrev pub twig : Table
twig = table_of (50 ∷ 51 ∷ 7 ∷ []) (1 ∷ 0 ∷ 7 ∷ []) (0 ∷ 1 ∷ 7 ∷ []) (1 ∷ 2 ∷ 7 ∷ []) (4 ∷ 0 ∷ 7 ∷ []) 2

-- one row with this key
abbrev pub leaf_of : ℕ → Table
leaf_of k = table_of (k ∷ []) (0 ∷ []) (0 ∷ []) (1 ∷ []) (4 ∷ []) 1

-- two rows are not sound: row 1 has key 0, row 3 the key of row 2
abbrev pub two_bad : Table
two_bad =
    table_of (10 ∷ 0 ∷ 30 ∷ 30 ∷ []) (3 ∷ 0 ∷ 0 ∷ 0 ∷ []) (0 ∷ 1 ∷ 1 ∷ 1 ∷ []) (1 ∷ 1 ∷ 1 ∷ 1 ∷ [])
    (1 ∷ 1 ∷ 1 ∷ 1 ∷ []) 4

-- 64 rows, each under the one before; the last, of level 63, is a text
abbrev pub deep_text : Table
deep_text =
    table_of (map suc (up_to 64 [])) (down_from 64) (up_to 64 []) (replicate 63 1 ++ (2 ∷ []))
    (replicate 63 1 ++ (0 ∷ [])) 64

-- a step on any table, with result columns of 8
abbrev pub step_on : Table → List ℕ → List ℕ → ℕ → ℕ → ℕ → Call
step_on t role row a s m = step t role row (ask_of a s m) (replicate 8 77) (replicate 8 88)
