-- `pairs_left::put_pair` meets its contract: what it writes is the pair, with its row's new number. Assumes
-- nothing.
use native.Mathlib.Omega.{arith}
use mir.Syntax.{w64}
use mir.Facts.{to_z-of_z}
use Rattle.pairs_left.proofs.WriteLaws.{put_one}
use Rattle.pairs_left.proofs.put_pair.Goals as goal

pub returns : goal.returns
returns c =
    let back = to_z-of_z {w = w64} {z = c.args.edit.moved}
    (record { sfits = omega (arith, c.struct_told-1.given.1.1.0) }) in
    rw c.stays.ensures.counted (put_one _ _ _ _ _ _ _ _ (rw back at c.row_after.ensures))
