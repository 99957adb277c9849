-- `keys::Chains::row_in` meets its contract. The invariant: of the rows that the walk has passed, the row kept is the
-- least that has the key x; one before it is on the rest of the chain. Assumes nothing.
use native.Mathlib.Nat.{le_refl, lt_irrefl}
use native.Mathlib.Omega.{arith}
use Rattle.keys.proofs.KeyLaws.{walk_start, walk_less, walk_step, walk_hit, walk_end}
use Rattle.keys.proofs.Chains.row_in.Goals as goal
use Rattle.keys.proofs.Chains.row_in.Goals.{then-key-j, else-key-j}

pub loop-r-init : goal.loop-r-init
loop-r-init c =
    let start = c in (
      le_refl _,
      λ l. absurd (lt_irrefl _ l),
      walk_start _ _ _ _ _ start.args.x _ start.args.self.now.low start.requires.chained
          c.bucket-b.ensures.0,
    )

pub loop-r-smaller : goal.loop-r-smaller
loop-r-smaller c =
    walk_less _ _ _ _ _ _ _ _ c.requires.chained c.loop-r.invariant.0 c.loop-r.invariant.2 c.loop-r-test.true

pub loop-r-preserved : goal.loop-r-preserved
loop-r-preserved c =
    let kept = c.loop-r.invariant in
    elim c.if-key-j.branch [
      | then-key-j w ↦ rw w.row-is (
        omega (arith, kept.0, kept.2.within),
        λ _. w.if-key-j.true,
        walk_hit _ _ _ _ _ _ _ _ c.requires.chained kept.0 kept.2 c.loop-r-test.true,
      )
      | else-key-j w ↦ rw w.row-is (
        kept.0,
        kept.1,
        walk_step _ _ _ _ _ _ _ _ c.requires.chained kept.0 kept.2 c.loop-r-test.true w.if-key-j.false,
      )
    ]

pub returns : goal.returns
returns c =
    let kept = c.loop-r.invariant in walk_end _ _ _ _ _ _ c.loop-r-test.false kept.0 kept.1 kept.2
