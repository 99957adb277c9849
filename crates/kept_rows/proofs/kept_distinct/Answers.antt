-- `kept_rows::kept_distinct` meets its contract. Assumes nothing.
use mathlib.Core.Path.{◌≡◌, ◌∙◌}
use mathlib.Core.Bool.{Bool}
use Prim.Native.Nat.{ℕ, ◌+◌, ◌-◌}
use native.Mathlib.Omega.{arith}
use native.Mathlib.Nat.{le_refl}
use lib.Dec.{ltb}
use lib.ListN.{length}
use borrow.Author.Tests.{ltb-true, ltb-false}
use Rattle.std.proofs.Common.{rules}
use Rattle.tree.specs.Table.{at}
use Rattle.kept_rows.proofs.KeptPassLaws.{Passed, pass_start, own_count, own_skip, own_done}
use Rattle.kept_rows.proofs.EndLaws.{ends_all}
use Rattle.kept_rows.proofs.kept_distinct.Goals as goal

pub returns : goal.returns
returns c =
    let p = c.requires.0 in
    let cs = c.args.rows.now in
    let f : ℕ → Bool = λ i. ltb (at cs (i - 1)) (at cs i) in
    c.count_ends.ensures f (λ i b m l q. search rules)
    ∙ own_done p (ends_all (Passed 1 c.args.trees.now.level.now cs) f (length cs) (pass_start 1 p c.requires.1)
    (λ k i s l e. own_count p s l (ltb-true _ _ e))
    (λ k i s l e. let z : k + 0 ≡ k = omega arith in rw z (own_skip p s l (ltb-false _ _ e))) c.requires.1) (le_refl _)
