-- `batch::do_items` meets its contract. The invariant: what was done so far, in columns as long as they were. Assumes
-- nothing.
use Prim.Native.Nat.{◌<◌, ◌≤◌}
use mathlib.Core.Path.{◌≡◌, refl, sym, ◌∙◌}
use mathlib.Core.Bool.{true}
use lib.ListN.{length}
use Rattle.items.specs.SoFar.{goes_on}
use Rattle.batch.proofs.SoFarLaws.{so_far_later, so_far_end, item_left}
use borrow.Author.Rules.{rules}
use Rattle.batch.proofs.do_items.Goals as goal
use Rattle.batch.proofs.do_items.Goals.{In-loop-i}

-- the list goes on, with an item that it has
module _ (c : In-loop-i) where
  goes : goes_on c.loop-i.so_far (length c.args.item_code.now) ≡ true
  goes = sym c.goes_on.ensures ∙ c.loop-i-test.true

  left : (c.loop-i.so_far.done < length c.args.item_code.now)
      × (length c.args.item_code.now ≤ 256)
      × (length c.args.item_code.now ≡ length c.args.item_key.now)
      × (length c.args.item_code.now ≡ length c.args.item_name.now)
  left =
      let list = c.requires.good_list in
      (item_left c.loop-i.so_far _ goes, list.few, list.keys, list.names)

pub loop-i-preserved : goal.loop-i-preserved
loop-i-preserved c = (
  rw c.after_item-so_far.ensures
      (so_far_later _ _ _ (left (goal.at.loop-i-preserved c).In-loop-i).2
      (left (goal.at.loop-i-preserved c).In-loop-i).3 _ c.loop-i.so_far _ refl
      c.loop-i.invariant.0 (goes (goal.at.loop-i-preserved c).In-loop-i) c.edit_item-edited.result
      c.edit_item-edited.ensures),
  search rules,
  search rules,
  search rules,
  search rules,
  search rules,
)

pub returns : goal.returns
returns c =
    let list = c.requires.good_list in so_far_end _ _ _ list.keys list.names _ c.loop-i.so_far _ refl
    c.loop-i.invariant.0
    (sym c.goes_on.ensures ∙ c.loop-i-test.false)
