use native.Mathlib.Omega.{arith}
use Rattle.block.specs.Block.{stored}
use Rattle.rows.proofs.Rows.{square_kept}
use Rattle.rows.proofs.Standing.{place_start, standing_start, standing_next, standing_end, standing_drawn, place_next, place_low, place_inside}
use Rattle.rows.proofs.whole_new.Goals as goal

pub loop-r-init : goal.loop-r-init
loop-r-init g c = (place_start c.raster_index-from.ensures, standing_start _ _ c.raster_index-to.ensures)

pub new_row-requires : goal.new_row-requires
new_row-requires g c = (place_inside c.loop-r.invariant.0 (square_kept c.requires.source c.loop-r.auto.back) c.loop-r-test.true, standing_drawn c.loop-r.invariant.1 c.requires.room (g.met.T.Pixel.laws.long _) c.loop-r-test.true (stored g.T.Pixel.DEEP) _ _ c.requires.block c.loop-r.invariant.0 c.requires.apart)

pub overflow_add-from : goal.overflow_add-from
overflow_add-from g c = omega (arith, place_low c.loop-r.invariant.0 c.requires.source c.loop-r-test.true)

pub overflow_add-to : goal.overflow_add-to
overflow_add-to g c = omega (arith, place_low c.loop-r.invariant.1.place c.requires.room c.loop-r-test.true)

pub loop-r-preserved : goal.loop-r-preserved
loop-r-preserved g c = (place_next c.loop-r.invariant.0, standing_next c.loop-r.invariant.1 c.loop-r-test.true c.new_row.ensures)

pub returns : goal.returns
returns g c = standing_end c.loop-r.invariant.1 c.loop-r-test.false
