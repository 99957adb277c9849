-- `pairs_left::put_four` meets its contract: each pair is written behind the one before it. Assumes nothing.
use Rattle.pairs_left.proofs.WriteLaws.{put_more}
use Rattle.pairs_left.proofs.put_four.Goals as goal

pub returns : goal.returns
returns c =
    put_more _ _ _ _ _ _ _ (put_more _ _ _ _ _ _ _ (put_more _ _ _ _ _ _ _ c.put_pair-second.ensures
    c.put_pair-third.ensures) c.put_pair-fourth.ensures) c.put_pair.ensures
