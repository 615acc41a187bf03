use mathlib.Core.Path.{refl}
use Prim.Native.Nat.{ℕ, ◌+◌, ◌*◌}
use native.Mathlib.Omega.{arith}
use lib.ListN.{get_or}
use Rattle.block.specs.Block.{dither_source}
use Rattle.rows.proofs.Beside.{eight_read}
use Rattle.rows.proofs.Colours.{turned_start, turned_next, turned_eight}
use Rattle.rows.proofs.Standing.{standing_start, standing_next, standing_end, standing_beside, place_low}
use Rattle.rows.proofs.whole_dither.Goals as goal

pub loop-r-init : goal.loop-r-init
loop-r-init g c = (turned_start _, standing_start _ _ c.raster_index-to.ensures)

pub put_eight-requires : goal.put_eight-requires
put_eight-requires g c = eight_read (λ (i : ℕ). get_or c.args.s.now (dither_source (8 * c.loop-r.r + i)) 0) (turned_eight _ _ c.loop-r.invariant.0) (standing_beside c.loop-r.invariant.1 c.requires.room refl c.loop-r-test.true c.requires.block (λ (i : ℕ). get_or c.args.s.now (dither_source (8 * c.loop-r.r + i)) 0) (λ i m new e. refl))

pub overflow_add-to : goal.overflow_add-to
overflow_add-to g c = omega (arith, place_low c.loop-r.invariant.1.place c.requires.room c.loop-r-test.true)

pub loop-r-preserved : goal.loop-r-preserved
loop-r-preserved g c = (turned_next _ _ _ _ c.loop-r.invariant.0, standing_next c.loop-r.invariant.1 c.loop-r-test.true c.put_eight.ensures)

pub returns : goal.returns
returns g c = standing_end c.loop-r.invariant.1 c.loop-r-test.false
