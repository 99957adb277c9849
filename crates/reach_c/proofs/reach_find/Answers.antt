-- `reach_c::reach_find` meets its contract: the library's answer, put into C's struct. Assumes nothing.
use mathlib.Core.Path.{sym, subst}
use Prim.Native.Nat.{◌≤◌}
use Rattle.answer.specs.Found.{parent_found}
use Rattle.reach_c.proofs.FindAnswerLaws.{parent_small}
use Rattle.reach_c.proofs.reach_find.Goals as goal
use Rattle.tree.specs.Outcome.{Found}

pub of_find-answer-requires : goal.of_find-answer-requires
of_find-answer-requires c =
    subst (λ (f : Found). parent_found f ≤ 4096) (sym c.find-found.ensures) (parent_small _ _)
