use mathlib.Core.Path.{◌≡◌}
use Prim.Native.Nat.{◌-◌, ◌*◌, ◌%◌}
use Rattle.motion.specs.Motion.{raster_index}
use Rattle.rows.proofs.Rows.{Rows}
use Rattle.rows.proofs.whole_cells.Given as goal

abbrev pub invariant-loop-p : goal.invariant-loop-p
invariant-loop-p g l = (l.p % (8 * l.side) ≡ 0) × (l.to ≡ raster_index l.w l.x l.y l.p) × Rows g.P.Drawing.plan (g.T.Pixel.numbers l.initial.back) (g.T.Pixel.numbers l.back) l.p

abbrev pub decreases-loop-p : goal.decreases-loop-p
decreases-loop-p g l = 64 - l.p
