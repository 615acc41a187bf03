use mathlib.Core.Path.{◌≡◌, refl, ap}
use Prim.Native.Nat.{ℕ, ◌+◌}
use native.Mathlib.Omega.{arith}
use Rattle.paint.proofs.Painting.{square_inside}
use Rattle.rows.proofs.Rows.{rows_end}
use Rattle.word_patterns.proofs.Bands.{room, forming_start, forming_at, forming_band, forming_next, forming_low, forming_more, as_far}
use Rattle.word_patterns.proofs.banded_form.Goals as goal

pub raster_index-to-requires : goal.raster_index-to-requires
raster_index-to-requires g c = square_inside _ _ _ _ _ c.requires.room (omega arith)

pub loop-p-init : goal.loop-p-init
loop-p-init g c = forming_start _ _ _ _ _ _ _ _ c.layout_of-l.ensures c.raster_index-to.ensures

pub pattern_band-requires : goal.pattern_band-requires
pattern_band-requires g c = forming_next c.loop-p.invariant c.loop-p-test.true c.requires.block c.requires.room

pub overflow_mul-to : goal.overflow_mul-to
overflow_mul-to g c = omega (arith, forming_low c.loop-p.invariant c.loop-p-test.true c.requires.room)

pub overflow_add-to : goal.overflow_add-to
overflow_add-to g c = omega (arith, forming_low c.loop-p.invariant c.loop-p-test.true c.requires.room)

pub overflow_add-part : goal.overflow_add-part
overflow_add-part g c = let z = room (forming_band c.loop-p.invariant c.loop-p-test.true) in omega (arith, z.colours_inside, z.length_few, z.part_few)

pub overflow_mul-p : goal.overflow_mul-p
overflow_mul-p g c = omega (arith, (room (forming_band c.loop-p.invariant c.loop-p-test.true)).rows_few)

pub overflow_add-p : goal.overflow_add-p
overflow_add-p g c = omega (arith, (room (forming_band c.loop-p.invariant c.loop-p-test.true)).pixels)

pub loop-p-smaller : goal.loop-p-smaller
loop-p-smaller g c = omega (arith, (room (forming_band c.loop-p.invariant c.loop-p-test.true)).rows_some, c.loop-p-test.true)

pub loop-p-preserved : goal.loop-p-preserved
loop-p-preserved g c =
    let e : c.layout_of-l.result.fields ≡ c.layout_of-l.result.part = rw c.layout_of-l.ensures (as_far c.args.form c.requires.other) in
    forming_at _ _ _ (forming_more c.loop-p.invariant c.loop-p-test.true c.pattern_band.ensures) refl (ap (λ (n : ℕ). c.loop-p.part + n) e) refl

pub returns : goal.returns
returns g c = rows_end c.loop-p.invariant.rows c.loop-p-test.false
