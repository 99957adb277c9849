-- `bounds::surely_fits` meets its contract: by the pairs, else by the roles. Assumes nothing.
use Prim.Native.Nat.{◌*◌, ◌≤◌}
use native.Mathlib.Nat.{le_trans, mul-le-mul}
use native.Mathlib.Omega.{arith}
use borrow.Author.Tests.{leb-true}
use Rattle.runs.proofs.StepRunLaws.{pairs_fit}
use Rattle.bounds.proofs.RoleBoundLaws.{roles_most, roles_few}
use Rattle.bounds.proofs.PairBoundLaws.{rows_few, pairs_most}
use Rattle.bounds.proofs.surely_fits.Goals as goal

pub axis_fits-requires : goal.axis_fits-requires
axis_fits-requires c =
    record { few_rows = rows_few c.args.call.now; parents = c.args.call.now.ready.links.parents }

pub returns-then-axis_fits : goal.returns-then-axis_fits
returns-then-axis_fits c = λ e.
    le_trans (pairs_most c.args.call.now.ready) (c.axis_fits.ensures c.if-axis_fits.true)

pub overflow_mul-result : goal.overflow_mul-result
overflow_mul-result c =
    let few : c.roles.result ≤ 4096 =
    omega (arith, c.roles.ensures, roles_few c.args.call.now.role.now, (pairs_fit c.args.call.now.ready).few) in
    omega (arith, mul-le-mul few c.args.call.now.trees.shape.few)

pub returns-else-axis_fits : goal.returns-else-axis_fits
returns-else-axis_fits c = λ e.
    le_trans (roles_most _ _ _ _ (pairs_fit c.args.call.now.ready).even)
    (rw c.roles.ensures at (leb-true (c.roles.result * c.args.call.now.trees.count) c.args.room e))
