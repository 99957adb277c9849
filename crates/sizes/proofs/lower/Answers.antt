-- `sizes::lower` meets its contract: the ancestors of the row are its parent and the rows above that. Assumes nothing.
use mathlib.Core.Path.{◌∙◌}
use Prim.Native.Nat.{◌-◌}
use native.Mathlib.Omega.{arith}
use Rattle.sizes.proofs.StandsLaws.{child_resizable, child_resized}
use Rattle.sizes.proofs.lower.Goals as goal

pub resize_up-requires : goal.resize_up-requires
resize_up-requires c =
    child_resizable c.args.child c.requires.stands 0 c.args.by (omega arith) c.requires.by_index

pub returns : goal.returns
returns c =
    c.resize_up.ensures
    ∙ child_resized c.args.child c.requires.stands 0 c.args.by (λ z. z - c.args.by) (λ z. omega arith)
