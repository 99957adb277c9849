-- The public calls of 01, and the refusal that the answer of each gives. When a call is told which number and place, by
-- the conditions of RefusalRules: proofs/ToldRefusals.antt. Before that by its reason: proofs/TableRefusals.antt (1, 2,
-- 9), StepRefusals.antt (3 to 8), EditRefusals.antt (10 to 16). Carrying pairs has CarryRefusals.antt, and a list of
-- changes BatchRefusals.antt. Assumes nothing.
use Rattle.std.specs.Prelude.{ℕ, Result, Ok, Err, List, [], ◌∷◌}
use Rattle.tree.specs.Table.{Table}
use Rattle.tree.specs.Step.{Ask}
use Rattle.tree.specs.Outcome.{check_outcome, find_outcome, step_outcome, insert_outcome, delete_outcome}
use Rattle.tree.specs.Outcome.{rename_outcome}
use Rattle.tree.specs.Refusal.{Checked, passed}
use Rattle.tree.specs.declared.Refusal.{Refusal}

-- check t · find t k · step t role row a outRole outRow · insert t k piece · delete t k · rename t k name
pub data Request : Type 0 where
  check : Table → Request
  find : Table → ℕ → Request
  step : Table → List ℕ → List ℕ → Ask → List ℕ → List ℕ → Request
  insert : Table → ℕ → Table → Request
  delete : Table → ℕ → Request
  rename : Table → ℕ → ℕ → Request

-- the table that a call lends
abbrev pub table_in : Request → Table
table_in (check t) = t
table_in (find t k) = t
table_in (step t role row a outRole outRow) = t
table_in (insert t k piece) = t
table_in (delete t k) = t
table_in (rename t k m) = t

-- what an answer says: the call passed, or its refusal
unfoldable pub said : {A : Type 0} → Result A Refusal → Checked
said (Ok a) = passed
said (Err why) = Err why

-- what the answer of a call says
unfoldable pub refusal : Request → Checked
refusal (check t) = check_outcome t
refusal (find t k) = said (find_outcome t k)
refusal (step t role row a outRole outRow) = said (step_outcome t role row a outRole outRow).answer
refusal (insert t k piece) = said (insert_outcome t k piece).answer
refusal (delete t k) = said (delete_outcome t k).answer
refusal (rename t k m) = said (rename_outcome t k m).answer

-- 01: "Table check: 1, 2. Step: 1 to 8. Find: 1, 2, 9. Insertion: 1, 2, 9 to 14. Deletion: 1, 2, 9, 15. Rename: 1, 2,
-- 9, 16."
abbrev pub numbers_of : Request → List ℕ
numbers_of (check t) = 1 ∷ 2 ∷ []
numbers_of (find t k) = 1 ∷ 2 ∷ 9 ∷ []
numbers_of (step t role row a outRole outRow) = 1 ∷ 2 ∷ 3 ∷ 4 ∷ 5 ∷ 6 ∷ 7 ∷ 8 ∷ []
numbers_of (insert t k piece) = 1 ∷ 2 ∷ 9 ∷ 10 ∷ 11 ∷ 12 ∷ 13 ∷ 14 ∷ []
numbers_of (delete t k) = 1 ∷ 2 ∷ 9 ∷ 15 ∷ []
numbers_of (rename t k m) = 1 ∷ 2 ∷ 9 ∷ 16 ∷ []
