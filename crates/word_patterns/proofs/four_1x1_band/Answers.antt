use mathlib.Core.Path.{refl}
use mathlib.Core.Logic.{inl, inr}
use native.Mathlib.Omega.{arith}
use Rattle.paint.proofs.Painting.{painting_end}
use Rattle.word_patterns.proofs.Bands.{room, banding_start, banding_more, turned, band_rowed, banding_as, no_further}
use Rattle.word_patterns.proofs.four_1x1_band.Goals as goal

pub overflow_add-fields : goal.overflow_add-fields
overflow_add-fields g c = let r = room c.requires.band.band in omega (arith, r.fields_inside, r.length_few)

pub number_of-v-requires : goal.number_of-v-requires
number_of-v-requires g c = let k = c.requires.band in (inr (inr refl), omega (arith, (room k.band).fields_inside, k.block.there))

pub loop-r-init : goal.loop-r-init
loop-r-init g c = banding_as (banding_start _ _ _ _ _ _) refl (omega arith) (omega arith)

pub overflow_add-p : goal.overflow_add-p
overflow_add-p g c = omega (arith, (room c.requires.band.band).pixels)

pub narrow_rows-requires : goal.narrow_rows-requires
narrow_rows-requires g c =
    band_rowed c.requires.band c.loop-r.invariant (omega (arith, c.loop-r-test.true)) 2 refl
    (record { is = c.number_of-v.ensures.0; bytes = c.number_of-v.ensures.1; each = c.requires.colours })
    (no_further _ (record { is = c.number_of-v.ensures.0; bytes = c.number_of-v.ensures.1; each = c.requires.colours }))
    refl c.low_word-left.ensures c.low_word-right.ensures

pub overflow_add-at : goal.overflow_add-at
overflow_add-at g c = omega (arith, (turned c.requires.band c.loop-r.invariant (omega (arith, c.loop-r-test.true))).low)

pub loop-r-preserved : goal.loop-r-preserved
loop-r-preserved g c = banding_as (banding_more c.loop-r.invariant (inl refl) refl (omega (arith, c.loop-r-test.true)) c.narrow_rows.ensures) (omega arith) (omega arith) (omega arith)

pub returns : goal.returns
returns g c = painting_end _ _ _ _ _ _ c.loop-r.invariant.painting (omega (arith, c.loop-r-test.false, c.loop-r.invariant.pixel))
