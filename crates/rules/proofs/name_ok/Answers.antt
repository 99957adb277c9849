-- `rules::name_ok` meets its contract, kind by kind. Assumes nothing.
use mathlib.Core.Path.{◌≡◌}
use mathlib.Core.Logic.{inl, inr, ⊎_elim}
use borrow.Author.Tests.{ne_eqb}
use Rattle.tree.specs.Sound.{name_ok, has_name}
use Rattle.rules.proofs.name_ok.Goals as goal

pub returns-in-1 : goal.returns-in-1
unfolding name_ok has_name
returns-in-1 c = ⊎_elim (λ (one : c.args.kind ≡ 1). simp one) (λ (four : c.args.kind ≡ 4). simp four) c.in-1.is

pub returns-in_default : goal.returns-in_default
unfolding name_ok has_name
returns-in_default c =
    let other = c.in_default.in_default-own.rest.1 in
    simp (ne_eqb c.args.kind 1 (λ e. other (inl e)), ne_eqb c.args.kind 4 (λ e. other (inr e)))
