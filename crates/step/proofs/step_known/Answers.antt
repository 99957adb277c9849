-- `step::step_known` meets its contract: the lines are written only where it is known that they fit. Assumes nothing.
use mathlib.Core.Path.{sym, ◌∙◌}
use Rattle.std.proofs.lemmas.Result.{err_from_is_err_and}
use Rattle.tree.specs.Refusal.{room_check}
use Rattle.tree.proofs.SoundLaws.{sound_shape}
use Rattle.links.proofs.RootedLaws.{up_zeros}
use Rattle.step.proofs.StepLeavesLaws.{leaves_full, room_fits, leaves_listed}
use Rattle.step.proofs.step_known.Goals as goal

pub invariant_of-trees : goal.invariant_of-trees
invariant_of-trees c = record { shape = sound_shape _ c.requires.sound }

pub up_for-requires : goal.up_for-requires
up_for-requires c = up_zeros

pub write_all-requires : goal.write_all-requires
unfolding room_check
write_all-requires c =
    let room = rw c.min.ensures at c.check_room.ensures in
    room_fits _ _ _ _ _ _ (sym room ∙ c.in_ok-check_room.was)

pub returns-in_err-check_room : goal.returns-in_err-check_room
unfolding room_check
returns-in_err-check_room c =
    let room = rw c.min.ensures at c.check_room.ensures in
    let p = err_from_is_err_and c.from_residual.result c.from_residual.ensures.1 in
    rw (p.1, p.2) (leaves_full _ _ _ _ _ _ _ c.requires (sym room ∙ c.in_err-check_room.was))

pub returns : goal.returns
unfolding room_check
returns c =
    let room = rw c.min.ensures at c.check_room.ensures in
    leaves_listed _ _ _ _ _ _ c.requires (sym room ∙ c.in_ok-check_room.was)
    c.write_all.ensures.lists c.write_all.ensures.kept_value
