-- What the refusals are given for, as propositions: RULES 01, "Refusal numbers", column "given exactly when", as 02's
-- E1, E2 and E4 left it. Not here, since Rules, StepRules and CarryRules have them: 2 is for the least row that is not
-- a `SoundRow`, 7 where `TestRule` fails, 17 where `MoveFits` does; and 8 and 11, which compare two numbers. That a
-- call is told a number and a place exactly then is in proofs/ToldRefusals.antt, by its reason in
-- proofs/TableRefusals.antt and the others that Request names. Assumes nothing.
use Rattle.std.specs.Prelude.{◌≡◌, ◌⊎◌, List, ℕ, ◌+◌, ◌-◌, ◌<◌, ◌≤◌, length}
use Rattle.tree.specs.Table.{Table, most_rows, at, shortest}
use Rattle.tree.specs.Pairs.{most_pairs}
use Rattle.tree.specs.Rules.{Sound}
use Rattle.tree.specs.EditRules.{NoKey, OtherRoot}
use Rattle.tree.specs.Batch.{most_items}
use Rattle.tree.specs.Request.{Request, check, find, step, insert, delete, rename}

-- ── of the first n rows or places ──
-- p is the least at which P holds
pub record Least (P : ℕ → Type 0) (n p : ℕ) : Type 0 where
  pub inside : p < n
  pub holds : P p
  pub before : (i : ℕ) → i < p → P i → ⊥

-- P holds at one of them
abbrev pub Some : (ℕ → Type 0) → ℕ → Type 0
Some P n = (i : ℕ) × (i < n) × P i

-- P holds at none of them
abbrev pub None : (ℕ → Type 0) → ℕ → Type 0
None P n = (i : ℕ) → i < n → P i → ⊥

-- ── the table ──
-- 1: the count is 0, above `most_rows`, or above the shortest table column
abbrev pub WrongCount : Table → Type 0
WrongCount t = ((t.count ≡ 0) ⊎ (most_rows < t.count)) ⊎ (shortest t < t.count)

-- ── the step ──
-- 3: pair columns differ in length or exceed `most_pairs`; and where they do neither
abbrev pub Uneven : List ℕ → List ℕ → Type 0
Uneven role row = (length role ≡ length row → ⊥) ⊎ (most_pairs < length role)

abbrev pub Even : List ℕ → List ℕ → Type 0
Even role row = (length role ≡ length row) × (length role ≤ most_pairs)

-- 4: the pair at place i is less than the one before it, by role, then row
abbrev pub Falls : List ℕ → List ℕ → ℕ → Type 0
Falls role row i =
    (i ≡ 0 → ⊥)
    × ((at role i < at role (i - 1)) ⊎ ((at role i ≡ at role (i - 1)) × (at row i < at row (i - 1))))

-- 6: the axis code is not 1 to 11; and where it is
abbrev pub WrongAxis : ℕ → Type 0
WrongAxis axis = (axis ≡ 0) ⊎ (11 < axis)

abbrev pub RightAxis : ℕ → Type 0
RightAxis axis = (1 ≤ axis) × (axis ≤ 11)

-- ── finding and editing by key ──
-- 9: the call names a key, and no row in use has it
abbrev pub KeyMissing : Request → Type 0
KeyMissing (check t) = ⊥
KeyMissing (find t k) = NoKey t k
KeyMissing (step t role row a outRole outRow) = ⊥
KeyMissing (insert t k piece) = NoKey t k
KeyMissing (delete t k) = NoKey t k
KeyMissing (rename t k m) = NoKey t k

-- 1, 2 and 9 do not apply: the table is sound, and row r has the key k
pub record KeyRow (t : Table) (k r : ℕ) : Type 0 where
  pub sound : Sound t
  pub inside : r < t.count
  pub key : at t.key r ≡ k

-- 10: the piece would get refusal 1 or 2, or its row 0 is a document (02: or it has several trees)
abbrev pub BadPiece : Table → Type 0
BadPiece piece = ((Sound piece → ⊥) ⊎ (at piece.kind 0 ≡ 0)) ⊎ OtherRoot piece.level piece.count 0

-- 12: under row r the level of the piece's row i would exceed 63
abbrev pub TooDeep : Table → ℕ → Table → ℕ → Type 0
TooDeep t r piece i = 63 < at piece.level i + (at t.level r + 1)

-- 13: the key of the piece's row i is in the table
abbrev pub Taken : Table → Table → ℕ → Type 0
Taken t piece i = Some (λ j. at t.key j ≡ at piece.key i) t.count

-- 14: the new count would exceed `most_rows` or the shortest table column
abbrev pub Full : Table → Table → Type 0
Full t piece = (most_rows < t.count + piece.count) ⊎ (shortest t < t.count + piece.count)

-- 15: row r is the only root
abbrev pub OnlyRoot : Table → ℕ → Type 0
OnlyRoot t r = (at t.level r ≡ 0) × (OtherRoot t.level t.count r → ⊥)

-- 16: row r is not of kind 1 or 4, or the new name is 0
abbrev pub NoName : Table → ℕ → ℕ → Type 0
NoName t r m = ((at t.kind r ≡ 1) ⊎ (at t.kind r ≡ 4) → ⊥) ⊎ (m ≡ 0)

-- ── carrying pairs over an edit: RULES 02, E1 ──
-- 1: the old count is 0 or above `most_rows`; and where it is neither
abbrev pub WrongOld : ℕ → Type 0
WrongOld old = (old ≡ 0) ⊎ (most_rows < old)

abbrev pub RightOld : ℕ → Type 0
RightOld old = (1 ≤ old) × (old ≤ most_rows)

-- ── a list of changes: RULES 02, E4 ──
-- the code at place i is 1 or 2
abbrev pub RightCode : List ℕ → ℕ → Type 0
RightCode code i = (at code i ≡ 1) ⊎ (at code i ≡ 2)

-- 18: list columns of unequal length, a list above `most_items`, or a code other than 1 or 2 anywhere; and where none
-- of these
abbrev pub BadList : List ℕ → List ℕ → List ℕ → Type 0
BadList code key name =
    (((length code ≡ length key → ⊥) ⊎ (length code ≡ length name → ⊥)) ⊎ (most_items < length code))
    ⊎ Some (λ i. RightCode code i → ⊥) (length code)

pub record GoodList (code key name : List ℕ) : Type 0 where
  pub keys : length code ≡ length key
  pub names : length code ≡ length name
  pub few : length code ≤ most_items
  pub codes : (i : ℕ) → i < length code → RightCode code i
