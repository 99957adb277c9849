-- `step::step` meets its contract: a call that the checks refuse leaves everything, any other goes on. Assumes nothing.
use mathlib.Core.Path.{sym, ◌∙◌}
use Rattle.std.proofs.lemmas.Result.{err_from_is_err_and}
use Rattle.step.proofs.StepLeavesLaws.{leaves_refused, call_known}
use Rattle.step.proofs.step.Goals as goal

pub step_known-requires : goal.step_known-requires
step_known-requires c = call_known _ _ _ _ (sym c.check_call.ensures ∙ c.in_ok-check_call.was)

pub returns-in_err-check_call : goal.returns-in_err-check_call
returns-in_err-check_call c =
    let p = err_from_is_err_and c.from_residual.result c.from_residual.ensures.1 in
    rw (p.1, p.2) (leaves_refused _ _ _ _ _ _ _ (sym c.check_call.ensures ∙ c.in_err-check_call.was))
