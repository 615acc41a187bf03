use Rattle.rows.proofs.Bands.{Rowed}
use Rattle.rows.proofs.cells_band.Given as goal

abbrev pub invariant-loop-r : goal.invariant-loop-r
invariant-loop-r g l = Rowed g.P.Drawing.plan l.w l.p l.side (g.T.Pixel.numbers l.initial.back) (g.T.Pixel.numbers l.back) l.to l.at l.r
