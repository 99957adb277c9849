-- `axis::ranged` meets its contract: each arm is the function of its axis. Assumes nothing.
use mathlib.Core.Logic.{inl, inr}
use Rattle.axis.proofs.RoleAxisLaws.{role_as, wrote_axis, ranged_last}
use Rattle.links.proofs.LinkAxisLaws.{side_of}
use Rattle.axis.proofs.ranged.Goals as goal

pub rows_after-requires : goal.rows_after-requires
rows_after-requires c = record {
  role_in = role_as c.in-8.is c.requires.role_in;
  roots = c.args.walk.now.links.roots (side_of _ (inl c.in-8.is));
}

pub rows_before-requires : goal.rows_before-requires
rows_before-requires c =
    let other = c.in_default.in_default-own.rest in
    let nine = ranged_last _ c.requires.axis_value other.0.0.0.1 other.0.0.1 other.0.1 other.1 in
    record { role_in = role_as nine c.requires.role_in; roots = c.args.walk.now.links.roots (side_of _ (inr nine)) }

pub returns-in_default : goal.returns-in_default
returns-in_default c =
    let other = c.in_default.in_default-own.rest in
    wrote_axis c.args.walk.now.trees c.args.walk.now.test _
    (ranged_last _ c.requires.axis_value other.0.0.0.1 other.0.0.1 other.0.1 other.1) c.rows_before.ensures
