-- A row that was found stands as changing the sizes above it asks for: `found_stands`. Assumes nothing.
use Rattle.tree.specs.Table.{Table}
use Rattle.tree.specs.declared.Located.{Located}
use Rattle.tree.proofs.SoundLaws.{sound_shape}
use Rattle.table.specs.RowFound.{RowFound}
use Rattle.sizes.specs.Upward.{Stands}

pub found_stands : {t : Table} {f : Located} → RowFound t f → Stands t.size t.level t.count f
found_stands {t = t} k = record {
  shape = sound_shape t k.known.sound;
  in_use = k.known.in_use;
  there = k.there;
}
