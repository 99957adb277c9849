-- `lines::walk_of` meets its contract: what the call's checks say holds of the walk. Assumes nothing.
use Rattle.tree.proofs.StepAccept.{asked_parts}
use Rattle.lines.proofs.walk_of.Goals as goal

pub invariant_of-result : goal.invariant_of-result
invariant_of-result c =
    let ready = c.args.call.now.ready in record {
      known = (asked_parts _ ready.call.asked).0;
      links = ready.links;
      in_kind = ready.call.sound.in_use.in_kind;
      in_name = ready.call.sound.in_use.in_name;
    }
