use mathlib.Core.Path.{refl}
use native.Mathlib.Omega.{arith}
use Rattle.paint.proofs.Painting.{square_inside}
use Rattle.rows.proofs.Rows.{rows_end}
use Rattle.word_patterns.proofs.Bands.{room, band_1x1, forming_start, forming_next, forming_low, forming_more, forming_as}
use Rattle.word_patterns.proofs.four_1x1.Goals as goal

pub read-l-requires : goal.read-l-requires
read-l-requires g c = omega (arith, c.requires.block.there, (room band_1x1).fields_inside)

pub raster_index-to-requires : goal.raster_index-to-requires
raster_index-to-requires g c = square_inside _ _ _ _ _ c.requires.room (omega arith)

pub loop-b-init : goal.loop-b-init
loop-b-init g c = forming_as (forming_start _ _ _ _ _ _ _ _ refl c.raster_index-to.ensures) (omega arith) (omega arith)

pub four_1x1_band-requires-clause-band : goal.four_1x1_band-requires-clause-band
four_1x1_band-requires-clause-band g c = forming_next c.loop-b.invariant (omega (arith, c.loop-b-test.true)) c.requires.block c.requires.room

pub overflow_mul-to : goal.overflow_mul-to
overflow_mul-to g c = omega (arith, forming_low c.loop-b.invariant (omega (arith, c.loop-b-test.true)) c.requires.room)

pub overflow_add-to : goal.overflow_add-to
overflow_add-to g c = omega (arith, forming_low c.loop-b.invariant (omega (arith, c.loop-b-test.true)) c.requires.room)

pub loop-b-preserved : goal.loop-b-preserved
loop-b-preserved g c = forming_as (forming_more c.loop-b.invariant (omega (arith, c.loop-b-test.true)) c.four_1x1_band.ensures) (omega arith) (omega arith)

pub returns : goal.returns
returns g c = rows_end c.loop-b.invariant.rows (omega (arith, c.loop-b-test.false))
