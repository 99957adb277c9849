-- `kept_rows::kept_innermost` meets its contract. Assumes nothing.
use mathlib.Core.Path.{◌≡◌, ◌∙◌}
use mathlib.Core.Bool.{Bool}
use Prim.Native.Nat.{ℕ, ◌+◌, ◌-◌}
use native.Mathlib.Nat.{le_refl}
use native.Mathlib.Omega.{arith}
use lib.Dec.{ltb}
use lib.ListN.{length}
use borrow.Author.Tests.{ltb-true, ltb-false}
use Rattle.std.proofs.Common.{rules}
use Rattle.std.proofs.iter.Serving.{serving}
use Rattle.tree.specs.Table.{at}
use Rattle.tree.proofs.SoundLaws.{shape_fits}
use Rattle.kept_rows.proofs.KeptPassLaws.{Passed, pass_start, inner_count, inner_skip, inner_done}
use Rattle.kept_rows.proofs.EndLaws.{ends_all}
use Rattle.kept_rows.proofs.kept_innermost.Goals as goal

pub returns : goal.returns
returns c =
    let p = c.requires.0 in
    let cs = c.args.rows.now in
    let size = c.args.trees.now.size.now in
    let f : ℕ → Bool = λ i. ltb (at cs (i - 1) + at size (at cs (i - 1))) (at cs i) in
    c.count_ends.ensures f (λ i b m l q. search rules)
    ∙ inner_done p (ends_all (Passed 6 c.args.trees.now.level.now cs) f (length cs) (pass_start 6 p c.requires.1)
    (λ k i s l e. inner_count p s l (ltb-true _ _ e))
    (λ k i s l e. let z : k + 0 ≡ k = omega arith in rw z (inner_skip p s l (ltb-false _ _ e))) c.requires.1) (le_refl _)

-- each context and its descendants are rows in use, of which there are few
pub count_ends-requires-clause-met : goal.count_ends-requires-clause-met
count_ends-requires-clause-met c i m l =
    let s = c.args.trees.now.shape in
    let q = shape_fits s _ (c.requires.0.contexts.inside (i - 1) (omega arith)) in
    let few = s.few in
    let room = s.in_size in
    grind serving
