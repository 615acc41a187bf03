use mathlib.Core.Path.{refl, ap, ◌∙◌}
use Prim.Native.Nat.{ℕ, ◌*◌, ◌^◌}
use native.Mathlib.Omega.{arith}
use Rattle.paint.proofs.Painting.{painting_end}
use Rattle.word_patterns.proofs.Bands.{room, banding_start, banding_more, turned, band_rowed, part_read, part_read_beyond}
use Rattle.word_patterns.proofs.band.Goals as goal

pub read-near-requires : goal.read-near-requires
read-near-requires g c = let k = c.requires.band in omega (arith, (room k.band).colours_inside, k.block.there, g.met.C.Colours.long, ap (λ (n : ℕ). 2 * 2 ^ n) c.requires.bits)

pub overflow_add-part : goal.overflow_add-part
overflow_add-part g c = let r = room c.requires.band.band in omega (arith, r.colours_inside, r.length_few)

pub read-far-requires : goal.read-far-requires
read-far-requires g c = let k = c.requires.band in omega (arith, (room k.band).colours_inside, k.block.there, g.met.C.Colours.long, ap (λ (n : ℕ). 2 * 2 ^ n) c.requires.bits)

pub overflow_add-start : goal.overflow_add-start
overflow_add-start g c = let r = room c.requires.band.band in omega (arith, r.fields_inside, r.length_few, c.BYTES.ensures, g.met.C.Colours.long, ap (λ (n : ℕ). 2 * 2 ^ n) c.requires.bits)

pub number_of-v-requires : goal.number_of-v-requires
number_of-v-requires g c =
    let k = c.requires.band in
    ((room k.band).counted, omega (arith, (room k.band).fields_inside, k.block.there, c.BYTES.ensures, g.met.C.Colours.long, ap (λ (n : ℕ). 2 * 2 ^ n) c.requires.bits))

pub overflow_add-start-2 : goal.overflow_add-start-2
overflow_add-start-2 g c = let r = room c.requires.band.band in omega (arith, r.fields_inside, r.length_few, c.BYTES.ensures, g.met.C.Colours.long, ap (λ (n : ℕ). 2 * 2 ^ n) c.requires.bits)

pub number_of-requires : goal.number_of-requires
number_of-requires g c =
    let k = c.requires.band in
    ((room k.band).counted, omega (arith, (room k.band).fields_inside, k.block.there, c.BYTES.ensures, g.met.C.Colours.long, ap (λ (n : ℕ). 2 * 2 ^ n) c.requires.bits))

pub overflow_shr-u : goal.overflow_shr-u
overflow_shr-u g c = omega (arith, (room c.requires.band.band).half_few)

pub loop-i-init : goal.loop-i-init
loop-i-init g c = banding_start _ _ _ _ _ _

pub low_word-left-requires : goal.low_word-left-requires
low_word-left-requires g c = omega (arith, (turned c.requires.band c.loop-i.invariant c.loop-i-test.true).shift_few)

pub low_word-right-requires : goal.low_word-right-requires
low_word-right-requires g c = omega (arith, (turned c.requires.band c.loop-i.invariant c.loop-i-test.true).shift_few)

pub cells-requires-clause-rows : goal.cells-requires-clause-rows
cells-requires-clause-rows g c =
    let e = c.BYTES.ensures ∙ g.met.C.Colours.long in
    band_rowed c.requires.band c.loop-i.invariant c.loop-i-test.true _ c.requires.bits (part_read _ e c.number_of-v.ensures c.read-near.ensures) (part_read_beyond _ _ e c.number_of.ensures c.read-far.ensures)
    refl c.low_word-left.ensures c.low_word-right.ensures

pub cells-requires-clause-width : goal.cells-requires-clause-width
cells-requires-clause-width g c = (room c.requires.band.band).wide

pub overflow_mul-at : goal.overflow_mul-at
overflow_mul-at g c = omega (arith, (turned c.requires.band c.loop-i.invariant c.loop-i-test.true).low)

pub overflow_add-at : goal.overflow_add-at
overflow_add-at g c = omega (arith, (turned c.requires.band c.loop-i.invariant c.loop-i-test.true).low)

pub overflow_add-bit : goal.overflow_add-bit
overflow_add-bit g c = let t = turned c.requires.band c.loop-i.invariant c.loop-i-test.true in omega (arith, t.shift_few, t.stride_few)

pub overflow_mul-i : goal.overflow_mul-i
overflow_mul-i g c = omega (arith, (turned c.requires.band c.loop-i.invariant c.loop-i-test.true).few)

pub overflow_add-i : goal.overflow_add-i
overflow_add-i g c = omega (arith, (turned c.requires.band c.loop-i.invariant c.loop-i-test.true).next)

pub loop-i-smaller : goal.loop-i-smaller
loop-i-smaller g c = omega (arith, (turned c.requires.band c.loop-i.invariant c.loop-i-test.true).some, c.loop-i-test.true)

pub loop-i-preserved : goal.loop-i-preserved
loop-i-preserved g c = let r = room c.requires.band.band in banding_more c.loop-i.invariant r.high r.cells_whole c.loop-i-test.true c.cells.ensures

pub returns : goal.returns
returns g c = painting_end _ _ _ _ _ _ c.loop-i.invariant.painting (omega (arith, c.loop-i-test.false, c.loop-i.invariant.pixel))
