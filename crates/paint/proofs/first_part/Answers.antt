use mathlib.Core.Path.{refl, sym, ◌∙◌}
use mathlib.Core.List.{List}
use lib.ListN.{length}
use Rattle.stores.proofs.Pixels.{first_none}
use Rattle.paint.proofs.Part.{chosen, first_next, part_readable, part_among, part_next}
use Rattle.paint.proofs.first_part.Goals as goal

pub loop-i-init : goal.loop-i-init
loop-i-init g c = sym (first_none _ _ _)

pub source_of-from-requires : goal.source_of-from-requires
source_of-from-requires g c = rw c.DEEP.ensures (part_readable _ _ _ _ _ _ _ _ _ _ _ _ _ c.requires.block c.requires.rooms c.loop-i-test.true)

pub fetch-v-requires : goal.fetch-v-requires
fetch-v-requires g c = part_among _ _ _ _ _ _ _ _ _ _ _ _ _ c.requires.block c.requires.rooms c.loop-i-test.true _ _ _ refl c.loop-i.auto.new (chosen (λ (l : List g.row.T.Denot). length l) _ _ _ _ c.older.ensures) _ (rw c.DEEP.ensures at c.source_of-from.ensures)

pub raster_index-requires : goal.raster_index-requires
raster_index-requires g c = (part_readable _ _ _ _ _ _ _ _ _ _ _ _ _ c.requires.block c.requires.rooms c.loop-i-test.true).at

pub put-requires : goal.put-requires
put-requires g c = part_next _ _ _ _ _ _ _ _ _ _ _ _ _ c.requires.block c.requires.rooms c.loop-i-test.true _ _ _ _ _ _ _ _ c.requires.plan (g.met.T.Pixel.laws.long _ ∙ c.loop-i.auto.new) c.loop-i.invariant (rw c.DEEP.ensures at c.source_of-from.ensures) (chosen g.T.Pixel.numbers _ _ _ _ c.older.ensures) c.fetch-v.ensures c.raster_index.ensures

pub loop-i-preserved : goal.loop-i-preserved
loop-i-preserved g c = first_next _ _ _ _ _ _ _ c.loop-i.invariant (part_next _ _ _ _ _ _ _ _ _ _ _ _ _ c.requires.block c.requires.rooms c.loop-i-test.true _ _ _ _ _ _ _ _ c.requires.plan (g.met.T.Pixel.laws.long _ ∙ c.loop-i.auto.new) c.loop-i.invariant (rw c.DEEP.ensures at c.source_of-from.ensures) (chosen g.T.Pixel.numbers _ _ _ _ c.older.ensures) c.fetch-v.ensures c.raster_index.ensures) c.put.ensures
