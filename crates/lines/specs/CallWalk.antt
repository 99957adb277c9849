-- What all roles of a call have in common is that of the call. Assumes nothing.
use Rattle.std.specs.Prelude.{◌≡◌}
use Rattle.scan.specs.Want.{want_of}
use Rattle.scan.specs.declared.want.NodeTest.{NodeTest}
use Rattle.links.specs.declared.walk.Walk.{Walk}
use Rattle.runs.specs.declared.call.Call.{Call}

-- the node test of a call
abbrev pub call_test : Call → NodeTest
call_test call = record { want = want_of call.ask; kind = call.kind; name = call.name }

-- the walk has the trees, the links, the node test and the axis of the call
pub record IsWalk (call : Call) (walk : Walk) : Type 0 where
  pub trees : walk.trees ≡ call.trees
  pub up : walk.up ≡ call.up
  pub test : walk.test ≡ call_test call
  pub axis : walk.axis ≡ call.ask.axis
