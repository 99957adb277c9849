-- `ways::way_up` meets its contract: what `climb` appended, turned round. Assumes nothing.
use Rattle.ways.proofs.ReverseLaws.{appended_turned}
use Rattle.ways.proofs.way_up.Goals as goal

pub returns : goal.returns
returns c = appended_turned c.climb-end.ensures c.requires.room c.turn_round.ensures
