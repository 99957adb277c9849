-- `lone::write_path` meets its contract. The loop's invariant, `PathLeft`: the rows of the path from `at` are to be
-- the first k results, and the rows below them are written. Assumes nothing.
use Prim.Native.Nat.{◌-◌}
use native.Mathlib.Omega.{arith}
use Rattle.lone.proofs.PathLaws.{path_next, path_done, path_some}
use Rattle.lone.proofs.write_path.Goals as goal

pub overflow_sub-v : goal.overflow_sub-v
overflow_sub-v c = path_some c.requires c.loop-k.invariant c.loop-k-test.true

pub loop-k-preserved : goal.loop-k-preserved
loop-k-preserved c =
    let some = path_some c.requires c.loop-k.invariant c.loop-k-test.true in
    path_next c.requires c.loop-k.invariant (c.loop-k.k - 1) (c.loop-k.at - 1) (omega arith) (omega arith)

pub returns : goal.returns
returns c = path_done c.requires c.loop-k.invariant c.loop-k-test.false
