use Rattle.rows.proofs.Standing.{Place, Standing}
use Rattle.rows.proofs.whole_copied.Given as goal

abbrev pub invariant-loop-r : goal.invariant-loop-r
invariant-loop-r g l = Place l.w l.sx l.sy l.from l.r × Standing g.P.Drawing.plan l.w l.x l.y (g.T.Pixel.numbers l.initial.back) (g.T.Pixel.numbers l.back) l.to l.r
