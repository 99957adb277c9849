-- Two answers that the contract of an exported function allows are equal, and so are the columns that they leave:
-- `check_only`, `find_only`, `step_only`, `edit_only` for the three edits, `carry_only` and `batch_only`. Assumes
-- nothing.
use mathlib.Core.Path.{◌≡◌, sym, ◌∙◌}
use mathlib.Core.List.{List}
use Prim.Native.Nat.{ℕ}
use Rattle.tree.specs.Table.{Table}
use Rattle.tree.specs.Outcome.{StepOutcome, EditOutcome, check_outcome, find_outcome}
use Rattle.tree.specs.Carry.{CarryOutcome}
use Rattle.tree.specs.Batch.{BatchOutcome}
use Rattle.answer.specs.Answer.{check_answer, StepAnswers, EditAnswers, CarryAnswers, BatchAnswers}
use Rattle.answer.specs.Found.{find_answer}
use Rattle.answer.specs.declared.Answer.{Answer}
use Rattle.answer.specs.declared.FoundAnswer.{FoundAnswer}

pub check_only : (t : Table) {x y : Answer} → x ≡ check_answer (check_outcome t) → y ≡ check_answer (check_outcome t)
    → x ≡ y
check_only t p q = p ∙ sym q

pub find_only : (t : Table) (k : ℕ) {x y : FoundAnswer} → x ≡ find_answer (find_outcome t k)
    → y ≡ find_answer (find_outcome t k) → x ≡ y
find_only t k p q = p ∙ sym q

pub step_only : {o : StepOutcome} {x y : Answer} {a b c d : List ℕ} → StepAnswers o x a b → StepAnswers o y c d
    → (x ≡ y) × (a ≡ c) × (b ≡ d)
step_only p q = (
  p.answers ∙ sym q.answers,
  p.role_is ∙ sym q.role_is,
  p.row_is ∙ sym q.row_is,
)

pub edit_only : {o : EditOutcome} {x y : Answer} {k s l c m k' s' l' c' m' : List ℕ}
    → EditAnswers o x k s l c m → EditAnswers o y k' s' l' c' m'
    → (x ≡ y) × (k ≡ k') × (s ≡ s') × (l ≡ l') × (c ≡ c') × (m ≡ m')
edit_only p q = (
  p.answers ∙ sym q.answers,
  p.key_is ∙ sym q.key_is,
  p.size_is ∙ sym q.size_is,
  p.level_is ∙ sym q.level_is,
  p.kind_is ∙ sym q.kind_is,
  p.name_is ∙ sym q.name_is,
)

pub carry_only : {o : CarryOutcome} {x y : Answer} {a b c d : List ℕ} → CarryAnswers o x a b → CarryAnswers o y c d
    → (x ≡ y) × (a ≡ c) × (b ≡ d)
carry_only p q = (
  p.answers ∙ sym q.answers,
  p.role_is ∙ sym q.role_is,
  p.row_is ∙ sym q.row_is,
)

pub batch_only : {o : BatchOutcome} {x y : Answer} {k s l c m k' s' l' c' m' : List ℕ}
    → BatchAnswers o x k s l c m → BatchAnswers o y k' s' l' c' m'
    → (x ≡ y) × (k ≡ k') × (s ≡ s') × (l ≡ l') × (c ≡ c') × (m ≡ m')
batch_only p q = (
  p.answers ∙ sym q.answers,
  p.key_is ∙ sym q.key_is,
  p.size_is ∙ sym q.size_is,
  p.level_is ∙ sym q.level_is,
  p.kind_is ∙ sym q.kind_is,
  p.name_is ∙ sym q.name_is,
)
