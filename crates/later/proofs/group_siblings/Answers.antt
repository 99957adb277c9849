-- `later::group_siblings` meets its contract. Assumes nothing.
use Rattle.axis.proofs.RoleAxisLaws.{role_as, wrote_axis}
use Rattle.later.proofs.group_siblings.Goals as goal

pub siblings_of_first-requires : goal.siblings_of_first-requires
siblings_of_first-requires c = record {
  ten = c.requires.ten.0;
  role_in = role_as c.requires.ten.0 c.requires.role_ask.asks;
  one_parent = c.have_one_parent.ensures c.if-have_one_parent.true;
}

pub returns-then-have_one_parent : goal.returns-then-have_one_parent
returns-then-have_one_parent c = let walk = c.args.walk.now in record {
  wrote = wrote_axis walk.trees walk.test _ c.requires.ten.0 c.siblings_of_first.ensures;
  blank = c.requires.role_ask.blank;
}
