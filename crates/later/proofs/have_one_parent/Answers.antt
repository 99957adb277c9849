-- `later::have_one_parent` meets its contract: each context is a row in use, so the column of parents has it. Assumes
-- nothing.
use Prim.Native.Nat.{ℕ, ◌<◌}
use mathlib.Core.Path.{ap}
use mathlib.Core.List.{List}
use native.Mathlib.Omega.{arith}
use lib.ListN.{length, get_or}
use Rattle.std.proofs.iter.Serving.{serving}
use Rattle.std.proofs.lemmas.List.{get_or_default}
use Rattle.later.proofs.have_one_parent.Goals as goal

pub all-requires-clause-callable : goal.all-requires-clause-callable
all-requires-clause-callable c =
    let s = c.args.trees.now.shape in
    let e = c.iter.ensures.rest in
    let k : (i d : ℕ) → i < length c.iter.result.rest.now → get_or c.iter.result.rest.now i d < 4096 = λ i d l.
    let m : i < length c.args.rows.now = omega (arith, ap length e) in
    omega (
      arith,
      ap (λ (xs : List ℕ). get_or xs i d) e,
      get_or_default c.args.rows.now i d 0 m,
      c.requires.1.inside i m,
      s.few,
    ) in
    grind serving
