use native.Mathlib.Omega.{arith}
use Rattle.rows.proofs.Bands.{rowed_start, rowed_low, rowed_more, rowed_beside}
use Rattle.rows.proofs.cells_band.Goals as goal

pub loop-r-init : goal.loop-r-init
loop-r-init g c = rowed_start _ _ _ _ _ _

pub put_eight-requires : goal.put_eight-requires
put_eight-requires g c = rowed_beside c.requires.1 c.loop-r.invariant c.loop-r-test.true (record { first = c.cell_colour-a.ensures; second = c.cell_colour-b.ensures; third = c.cell_colour-c.ensures; fourth = c.cell_colour-d.ensures })

pub overflow_add-at : goal.overflow_add-at
overflow_add-at g c = omega (arith, rowed_low c.requires.1 c.loop-r.invariant c.loop-r-test.true)

pub loop-r-preserved : goal.loop-r-preserved
loop-r-preserved g c = rowed_more c.requires.1 c.loop-r.invariant c.loop-r-test.true c.put_eight.ensures
