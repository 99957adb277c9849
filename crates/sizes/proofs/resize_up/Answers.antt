-- `sizes::resize_up` meets its contract. The invariant: row i and those above it are still to be changed. Assumes
-- nothing.
use mathlib.Core.Path.{◌∙◌}
use native.Mathlib.Numerals.{add-one}
use native.Mathlib.Omega.{arith}
use Rattle.sizes.proofs.UpLaws.{up_small, up_asks, up_turn, up_end}
use Rattle.sizes.proofs.resize_up.Goals as goal

pub overflow_add-size : goal.overflow_add-size
overflow_add-size c = omega (arith, up_small c.requires c.loop-up.invariant, c.requires.few)

pub parent_of-i-requires : goal.parent_of-i-requires
parent_of-i-requires c =
    up_asks c.requires c.loop-up.invariant (omega arith)

pub loop-up-preserved : goal.loop-up-preserved
loop-up-preserved c =
    up_turn c.requires c.loop-up.invariant _ (c.parent_of-i.ensures ∙ add-one _)

pub overflow_add-size-2 : goal.overflow_add-size-2
overflow_add-size-2 c = omega (arith, up_small c.requires c.loop-up.invariant, c.requires.few)

pub returns : goal.returns
returns c = up_end c.requires c.loop-up.invariant (omega arith)
