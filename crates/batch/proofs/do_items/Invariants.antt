-- `batch::do_items` meets its contract. The invariant: what was done so far, in columns as long as they were. Assumes
-- nothing.
use mathlib.Core.Path.{◌≡◌}
use lib.ListN.{length}
use Rattle.tree.specs.Table.{table_of}
use Rattle.tree.specs.Batch.{items_of}
use Rattle.batch.specs.Resumed.{turns_left}
use Rattle.batch.proofs.SoFarLaws.{SoFar}
use Rattle.batch.proofs.do_items.Given as goal

abbrev pub invariant-loop-i : goal.invariant-loop-i
invariant-loop-i l =
    SoFar (items_of l.item_code l.item_key l.item_name)
    (table_of l.initial.key l.initial.size l.initial.level l.initial.kind l.initial.name l.count)
    (length l.item_code) l.so_far
    (table_of l.key l.size l.level l.kind l.name l.so_far.count)
    × (length l.key ≡ length l.initial.key) × (length l.size ≡ length l.initial.size)
    × (length l.level ≡ length l.initial.level)
    × (length l.kind ≡ length l.initial.kind) × (length l.name ≡ length l.initial.name)

abbrev pub decreases-loop-i : goal.decreases-loop-i
decreases-loop-i l =
    turns_left l.so_far.end l.so_far.done (length l.item_code)
