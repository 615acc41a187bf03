use Rattle.rows.proofs.Standing.{Standing}
use Rattle.rows.proofs.whole_raw.Given as goal

abbrev pub invariant-loop-r : goal.invariant-loop-r
invariant-loop-r g l = Standing g.P.Drawing.plan l.w l.x l.y (g.T.Pixel.numbers l.initial.back) (g.T.Pixel.numbers l.back) l.to l.r
