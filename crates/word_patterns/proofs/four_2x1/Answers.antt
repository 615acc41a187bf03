use mathlib.Core.Path.{refl, ◌∙◌}
use mathlib.Core.Logic.{inl, inr}
use native.Mathlib.Omega.{arith}
use Rattle.stores.proofs.Order.{further_first}
use Rattle.paint.proofs.Painting.{painting_end, square_inside}
use Rattle.word_patterns.proofs.Rows.{rowed_as, wide_joined}
use Rattle.word_patterns.proofs.Bands.{room, banding_start, banding_more, turned, band_rowed, band_2x1, whole_band, banding_as}
use Rattle.word_patterns.proofs.four_2x1.Goals as goal

pub read-l-requires : goal.read-l-requires
read-l-requires g c = omega (arith, c.requires.block.there, (room band_2x1).fields_inside)

pub number_of-v-requires : goal.number_of-v-requires
number_of-v-requires g c = (inr (inr refl), omega (arith, c.requires.block.there, (room band_2x1).fields_inside))

pub raster_index-at-requires : goal.raster_index-at-requires
raster_index-at-requires g c = square_inside _ _ _ _ _ c.requires.room (omega arith)

pub loop-r-init : goal.loop-r-init
loop-r-init g c = rw c.raster_index-at.ensures (banding_as (banding_start _ _ _ _ _ _) refl (omega arith) (omega arith))

pub wide_rows-requires : goal.wide_rows-requires
wide_rows-requires g c =
    rowed_as (wide_joined _ _ _ c.low_word-k.ensures _)
    (band_rowed (whole_band c.requires.block c.requires.room) c.loop-r.invariant (omega (arith, c.loop-r-test.true)) 2 refl
    (record { is = c.number_of-v.ensures.0; bytes = c.number_of-v.ensures.1; each = c.read-l.ensures })
    (record { is = c.number_of-v.ensures.0; bytes = c.number_of-v.ensures.1; each = c.read-l.ensures })
    refl c.low_word-k.ensures refl)

pub overflow_add-at : goal.overflow_add-at
overflow_add-at g c = omega (arith, (turned (whole_band c.requires.block c.requires.room) c.loop-r.invariant (omega (arith, c.loop-r-test.true))).low)

pub loop-r-preserved : goal.loop-r-preserved
loop-r-preserved g c = banding_as (banding_more c.loop-r.invariant (inl refl) refl (omega (arith, c.loop-r-test.true)) c.wide_rows.ensures) (omega arith) (omega arith) (omega arith)

pub returns : goal.returns
returns g c = painting_end _ _ _ _ _ _ c.loop-r.invariant.painting (omega (arith, c.loop-r-test.false, c.loop-r.invariant.pixel)) ∙ further_first _ 0 _ 64
