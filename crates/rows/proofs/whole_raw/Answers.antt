use mathlib.Core.Path.{refl}
use Prim.Native.Nat.{ℕ, ◌+◌, ◌*◌}
use native.Mathlib.Omega.{arith}
use Rattle.rows.specs.Row.{colour}
use Rattle.rows.proofs.Colours.{colours_few}
use Rattle.rows.proofs.Standing.{standing_start, standing_next, standing_end, standing_beside, place_low}
use Rattle.rows.proofs.whole_raw.Goals as goal

pub loop-r-init : goal.loop-r-init
loop-r-init g c = standing_start _ _ c.raster_index-to.ensures

pub raw_row-requires : goal.raw_row-requires
raw_row-requires g c = (colours_few g.T.Pixel.DEEP (8 * c.loop-r.r + 8) 64 _ (omega arith) c.requires.there, standing_beside c.loop-r.invariant c.requires.room (g.met.T.Pixel.laws.long _) c.loop-r-test.true c.requires.block (λ (i : ℕ). colour g.T.Pixel.DEEP c.args.s.now (8 * c.loop-r.r + i)) (λ i m new e. refl))

pub overflow_add-to : goal.overflow_add-to
overflow_add-to g c = omega (arith, place_low c.loop-r.invariant.place c.requires.room c.loop-r-test.true)

pub loop-r-preserved : goal.loop-r-preserved
loop-r-preserved g c = standing_next c.loop-r.invariant c.loop-r-test.true c.raw_row.ensures

pub returns : goal.returns
returns g c = standing_end c.loop-r.invariant c.loop-r-test.false
