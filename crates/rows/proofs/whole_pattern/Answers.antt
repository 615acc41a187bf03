use mathlib.Core.Path.{refl}
use native.Mathlib.Omega.{arith}
use Rattle.rows.proofs.Standing.{standing_start, standing_next, standing_end, standing_beside, place_low}
use Rattle.rows.proofs.whole_pattern.Goals as goal

pub loop-r-init : goal.loop-r-init
loop-r-init g c = standing_start _ _ c.raster_index-to.ensures

pub pattern_row-requires : goal.pattern_row-requires
pattern_row-requires g c = (c.requires.shaped, c.requires.there, standing_beside c.loop-r.invariant c.requires.room refl c.loop-r-test.true c.requires.block _ (λ i m new e. refl))

pub overflow_add-to : goal.overflow_add-to
overflow_add-to g c = omega (arith, place_low c.loop-r.invariant.place c.requires.room c.loop-r-test.true)

pub loop-r-preserved : goal.loop-r-preserved
loop-r-preserved g c = standing_next c.loop-r.invariant c.loop-r-test.true c.pattern_row.ensures

pub returns : goal.returns
returns g c = standing_end c.loop-r.invariant c.loop-r-test.false
