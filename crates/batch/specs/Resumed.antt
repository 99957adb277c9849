-- The rest of a list of changes, by what was done so far. No contract of an entry point cites it. Assumes nothing.
use Rattle.std.specs.Prelude.{ℕ, ◌-◌, List, drop, Ok, Err}
use Rattle.tree.specs.Table.{Table}
use Rattle.tree.specs.Batch.{BatchOutcome, ended, one_by_one}
use Rattle.tree.specs.declared.Item.{Item}
use Rattle.tree.specs.declared.Batched.{Batched}
use Rattle.tree.specs.Refusal.{Checked}

-- what the rest gives on the table t, by what ended the list so far and the number done
abbrev pub by_end : Checked → ℕ → List Item → Table → BatchOutcome
by_end (Ok u) done is t = one_by_one done (drop done is) t
by_end (Err why) done is t = ended done (Err why) t

abbrev pub resumed : Batched → List Item → Table → BatchOutcome
resumed s is t = by_end s.end s.done is t

-- how many turns are left at most
abbrev pub turns_left : Checked → ℕ → ℕ → ℕ
turns_left (Ok u) done n = n - done
turns_left (Err why) done n = 0
