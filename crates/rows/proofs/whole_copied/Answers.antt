use Prim.Native.Nat.{ℕ}
use native.Mathlib.Omega.{arith}
use lib.ListN.{get_or}
use Rattle.block.specs.Block.{stored}
use Rattle.rows.proofs.Standing.{place_start, standing_start, standing_next, standing_end, standing_copied, place_next, place_low, place_inside}
use Rattle.rows.proofs.whole_copied.Goals as goal

pub loop-r-init : goal.loop-r-init
loop-r-init g c = (place_start c.raster_index-from.ensures, standing_start _ _ c.raster_index-to.ensures)

pub copied_row-requires : goal.copied_row-requires
copied_row-requires g c = (place_inside c.loop-r.invariant.0 c.requires.source c.loop-r-test.true, standing_copied c.loop-r.invariant.1 c.requires.room (g.met.T.Pixel.laws.long _) c.loop-r-test.true (λ (n : ℕ). stored g.T.Pixel.DEEP (get_or (g.T.Pixel.numbers c.args.t.now) n 0)) _ _ c.requires.block c.loop-r.invariant.0)

pub overflow_add-from : goal.overflow_add-from
overflow_add-from g c = omega (arith, place_low c.loop-r.invariant.0 c.requires.source c.loop-r-test.true)

pub overflow_add-to : goal.overflow_add-to
overflow_add-to g c = omega (arith, place_low c.loop-r.invariant.1.place c.requires.room c.loop-r-test.true)

pub loop-r-preserved : goal.loop-r-preserved
loop-r-preserved g c = (place_next c.loop-r.invariant.0, standing_next c.loop-r.invariant.1 c.loop-r-test.true c.copied_row.ensures)

pub returns : goal.returns
returns g c = standing_end c.loop-r.invariant.1 c.loop-r-test.false
