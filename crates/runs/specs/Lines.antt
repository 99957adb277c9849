-- The table of a call that the checks let through, and the lines of its step: RULES 01, "The step". Assumes nothing.
use Rattle.std.specs.Prelude.{List}
use Rattle.tree.specs.Table.{Table, table_of}
use Rattle.tree.specs.Pairs.{Pair, pairs_of}
use Rattle.tree.specs.Step.{step_list}
use Rattle.runs.specs.declared.call.Call.{Call}

-- the table that is asked
abbrev pub asked_table : Call → Table
asked_table call =
    table_of call.key.now call.trees.size.now call.trees.level.now call.kind.now call.name.now call.trees.count

-- the lines of the step
abbrev pub step_lines : Call → List Pair
step_lines call = step_list (asked_table call) call.ask (pairs_of call.role.now call.row.now)
