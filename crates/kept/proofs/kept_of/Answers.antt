-- `kept::kept_of` meets its contract: each arm counts on one axis of a group whose axes keep the same.
-- Assumes nothing.
use mathlib.Core.Path.{◌∙◌}
use mathlib.Core.Logic.{inl, inr}
use native.Mathlib.Omega.{arith}
use Rattle.kept_rows.proofs.KeptOfLaws.{kept_descend, kept_ascend, kept_aside, kept_plain}
use Rattle.kept_rows.proofs.KeptPassLaws.{kept_few}
use Rattle.kept.proofs.KeptTreeLaws.{side_range}
use Rattle.kept.proofs.kept_of.Goals as goal
use Rattle.kept.proofs.kept_of.Goals.{in_default-via-then-axis-lt3}
use Rattle.kept.proofs.kept_of.Goals.{in_default-via-else-axis-lt3+else-axis-lt5+then-axis-lt6}
use Rattle.kept.proofs.kept_of.Goals.{in_default-via-else-axis-lt3+else-axis-lt5+else-axis-lt6+else-axis-lt8+else-axis-lt10}

pub returns-then-rows-lt2 : goal.returns-then-rows-lt2
returns-then-rows-lt2 c = kept_few c.requires.kept_in _ c.if-rows-lt2.true

pub kept_trees-requires : goal.kept_trees-requires
kept_trees-requires c = record {
  kept_in = (c.requires.kept_in, omega arith);
  roots = c.requires.roots (side_range _ (omega arith) (omega arith));
}

pub returns-in-3 : goal.returns-in-3
returns-in-3 c = c.kept_outermost.ensures ∙ kept_descend _ _ (omega arith) (omega arith)

pub returns-in-6 : goal.returns-in-6
returns-in-6 c = c.kept_innermost.ensures ∙ kept_ascend _ _ (omega arith) (omega arith)

pub returns-in-8 : goal.returns-in-8
returns-in-8 c =
    c.kept_trees.ensures ∙ kept_aside _ _ (omega arith) (omega arith)

pub returns-in_default : goal.returns-in_default
returns-in_default c =
    let plain = kept_plain c.args.trees.now.level.now c.args.rows.now {axis = c.args.axis} in
    elim c.in_default.branch [
      | in_default-via-then-axis-lt3 w ↦ c.kept_distinct.ensures ∙ plain (inl (omega arith))
      | in_default-via-else-axis-lt3+else-axis-lt5+then-axis-lt6 w ↦
          c.kept_distinct.ensures ∙ plain (inr (inl (omega arith)))
      | in_default-via-else-axis-lt3+else-axis-lt5+else-axis-lt6+else-axis-lt8+else-axis-lt10 w ↦
          c.kept_distinct.ensures ∙ plain (inr (inr (omega arith)))
    ]
