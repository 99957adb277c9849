-- A list of changes while it is done: what was done so far, in the shape of the answer. No contract of an entry point
-- cites it. Assumes nothing.
use Rattle.std.specs.Prelude.{ℕ, ◌+◌, Bool, ◌&&◌, ltb, is_ok, Ok, Err}
use Rattle.tree.specs.declared.Batched.{Batched}
use Rattle.tree.specs.Refusal.{passed}
use Rattle.tree.specs.declared.Refusal.{Refusal}
use Rattle.tree.specs.Outcome.{Edited}

-- nothing was done, and the count is as it was, because of a refusal
abbrev pub nothing_done : ℕ → Refusal → Batched
nothing_done count why = record { done = 0; count = count; end = Err why }

-- of n items there is one to try
abbrev pub goes_on : Batched → ℕ → Bool
goes_on s n = is_ok s.end && ltb s.done n

-- one item later, by what its edit answered
abbrev pub after_item : Batched → Edited → Batched
after_item s (Ok d) = record { done = s.done + 1; count = d.count; end = passed }
after_item s (Err why) = record { done = s.done; count = s.count; end = Err why }
