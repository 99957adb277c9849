-- `axis::marked` meets its contract: each arm is the function of its axis. Assumes nothing.
use mathlib.Core.Path.{ap}
use Rattle.links.specs.Links.{climbs_axis}
use Rattle.axis.proofs.RoleAxisLaws.{marked_as, marked_last}
use Rattle.axis.proofs.marked.Goals as goal

pub mark_parents-requires : goal.mark_parents-requires
unfolding climbs_axis
mark_parents-requires c = record {
  marks = c.requires.marks;
  parents = c.args.walk.now.links.parents (ap climbs_axis c.in-5.is);
}

pub mark_later_siblings-requires : goal.mark_later_siblings-requires
unfolding climbs_axis
mark_later_siblings-requires c = record {
  marks = c.requires.marks;
  parents = c.args.walk.now.links.parents (ap climbs_axis c.in-10.is);
}

pub mark_earlier_siblings-requires : goal.mark_earlier_siblings-requires
unfolding climbs_axis
mark_earlier_siblings-requires c =
    let other = c.in_default.in_default-own.rest in record {
      marks = c.requires.marks;
      parents = c.args.walk.now.links.parents
          (ap climbs_axis (marked_last _ c.requires.axis_value
          other.0.0.1 other.0.1 other.1));
    }

pub returns-in_default : goal.returns-in_default
returns-in_default c =
    let other = c.in_default.in_default-own.rest in marked_as (marked_last _ c.requires.axis_value
    other.0.0.1 other.0.1 other.1)
    c.mark_earlier_siblings.ensures
