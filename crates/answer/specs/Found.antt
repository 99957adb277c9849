-- What finding a key answers, as a struct for C: include/reach.h, reach_found; RULES 02, E3. A root has no parent, and
-- -1 in its place. Refusal 0 is acceptance; on a refusal the row, the level and the parent are 0. Assumes nothing.
use Rattle.std.specs.Prelude.{ℕ, pos, negsuc, Ok, Err}
use Rattle.tree.specs.declared.Located.{Located}
use Rattle.tree.specs.declared.Located.TheVariants.{Root, Under}
use Rattle.answer.specs.declared.FoundAnswer.{FoundAnswer}
use Rattle.tree.specs.Outcome.{Found}
use Rattle.tree.specs.Number.{number, place}

-- a root, or a row with its level and its parent's row
unfoldable pub located_answer : Located → FoundAnswer
located_answer (Root r) = record { refusal = 0; place = 0; row = r; level = 0; parent = negsuc 0 }
located_answer (Under c) =
    record { refusal = 0; place = 0; row = c.row; level = c.level; parent = pos c.parent }

-- what was found, or the refusal
unfoldable pub find_answer : Found → FoundAnswer
find_answer (Ok l) = located_answer l
find_answer (Err why) = record { refusal = number why; place = place why; row = 0; level = 0; parent = pos 0 }

-- ── no contract of an entry point cites these ──
-- the parent's row, 0 where there is none: that it is small makes it a signed number
abbrev pub parent_in : Located → ℕ
parent_in (Root r) = 0
parent_in (Under c) = c.parent

abbrev pub parent_found : Found → ℕ
parent_found (Ok l) = parent_in l
parent_found (Err why) = 0
