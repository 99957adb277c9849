-- `kept::kept_trees` meets its contract: contexts of one tree need no count. Assumes nothing.
use mathlib.Core.Path.{◌≡◌, ◌∙◌}
use mathlib.Core.Bool.{Bool}
use Prim.Native.Nat.{ℕ, ◌+◌, ◌-◌}
use native.Mathlib.Nat.{le_refl}
use native.Mathlib.Omega.{arith}
use lib.Dec.{ltb}
use lib.ListN.{length}
use borrow.Author.Tests.{ltb-true, ltb-false}
use Rattle.std.proofs.Common.{rules}
use Rattle.std.proofs.iter.Serving.{serving}
use Rattle.tree.specs.Table.{at}
use Rattle.kept_rows.proofs.EndLaws.{ends_all}
use Rattle.kept.proofs.KeptTreeLaws.{Counted, trees_start, trees_count, trees_skip, trees_done, trees_one}
use Rattle.kept.proofs.kept_trees.Goals as goal

pub returns-then-top-first : goal.returns-then-top-first
returns-then-top-first c =
    trees_one c.requires.kept_in.0 c.requires.roots c.requires.kept_in.1 c.if-top-first.true

-- each context is a row
pub count_ends-requires-clause-met : goal.count_ends-requires-clause-met
count_ends-requires-clause-met c i m l =
    let before = c.requires.kept_in.0.contexts.inside (i - 1) (omega arith) in
    let here = c.requires.kept_in.0.contexts.inside i l in
    let few = c.args.trees.now.shape.few in
    grind serving

pub returns : goal.returns
returns c =
    let p = c.requires.kept_in.0 in
    let r = c.requires.roots in
    let cs = c.args.rows.now in
    let top = c.args.top.now in
    let f : ℕ → Bool = λ i. ltb (at top (at cs (i - 1))) (at top (at cs i)) in
    c.count_ends.ensures f (λ i b m l q. search rules)
    ∙ trees_done p r (ends_all (Counted c.args.trees.now.level.now cs) f (length cs) (trees_start p r c.requires.kept_in.1)
    (λ k i s l e. trees_count p r s l (ltb-true _ _ e))
    (λ k i s l e. let z : k + 0 ≡ k = omega arith in rw z (trees_skip p r s l (ltb-false _ _ e))) c.requires.kept_in.1)
    (le_refl _)
