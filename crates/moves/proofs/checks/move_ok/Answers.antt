-- `moves::checks::move_ok` meets its contract: what it refuses first does not fit, and then no sum leaves the range.
-- Assumes nothing.
use Prim.Native.Nat.{◌≤◌}
use mathlib.Core.Path.{◌≡◌, ap, ap₂, ◌∙◌}
use mathlib.Core.Bool.{Bool, false, ◌&&◌}
use native.Mathlib.Omega.{arith}
use lib.Dec.{leb}
use lib.IntN.{ℤ, pos, negsuc}
use lib.Signed.{mag, lt_z, le_z}
use mir.Syntax.{w64}
use mir.Val.{SFits, to_z, of_z}
use mir.Facts.{to_z-of_z}
use Rattle.moves.proofs.SignedLaws.{sum_is, small_move, refused_otherwise, far_down, far_up}
use Rattle.moves.proofs.SignedLaws.{same_tests}
use Rattle.moves.proofs.checks.move_ok.Goals as goal

-- a move that passes both tests is small
near : (m : ℤ) → SFits w64 m → lt_z (to_z w64 (of_z w64 m)) (negsuc 4095) ≡ false
    → lt_z (pos 4096) (to_z w64 (of_z w64 m)) ≡ false → mag m ≤ 4096
near m f d u = small_move m (rw (to_z-of_z f) at d) (rw (to_z-of_z f) at u)

pub returns-then-old_count-first : goal.returns-then-old_count-first
returns-then-old_count-first c = refused_otherwise _ _ _ (λ h. omega (arith, h.within, c.if-old_count-first.true))

pub returns-then-moved-ltminus4096 : goal.returns-then-moved-ltminus4096
returns-then-moved-ltminus4096 c =
    far_down _ _ _ c.requires (rw (to_z-of_z {w = w64} c.ranges.moved) at c.if-moved-ltminus4096.true)

pub returns-then-moved-gt4096 : goal.returns-then-moved-gt4096
returns-then-moved-gt4096 c =
    far_up _ _ _ c.requires (rw (to_z-of_z {w = w64} c.ranges.moved) at c.if-moved-gt4096.true)

pub returns : goal.returns
returns c =
    let near = near _ c.ranges.moved c.if-moved-ltminus4096.false c.if-moved-gt4096.false in
    let below = c.if-old_count-first.false in
    let to = sum_is c.args.first c.args.moved (omega (arith, c.requires, below)) near in
    let new = sum_is c.args.old_count c.args.moved c.requires near in
    ap₂ (λ (a b : Bool). a && b) (ap (λ (z : ℤ). leb 1 c.args.first && le_z (pos 0) z) to)
    (ap (λ (z : ℤ). le_z (pos 1) z && le_z z (pos 4096)) new)
    ∙ same_tests _ _ _ below
