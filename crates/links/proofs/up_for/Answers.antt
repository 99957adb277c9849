-- `links::up_for` meets its contract: on other axes nothing is asked of up. Assumes nothing.
use mathlib.Core.Path.{sym, ◌∙◌}
use Rattle.links.proofs.LinkAxisLaws.{climbs_aside}
use Rattle.links.proofs.up_for.Goals as goal

pub returns-then-climbs : goal.returns-then-climbs
returns-then-climbs c = record {
  parents = λ e. c.parents.ensures;
  roots = λ e.
      absurd (climbs_aside _ (sym c.climbs.ensures ∙ c.if-climbs.true) e);
}
