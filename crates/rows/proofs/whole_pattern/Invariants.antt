use Rattle.rows.proofs.Standing.{Standing}
use Rattle.rows.proofs.whole_pattern.Given as goal

abbrev pub invariant-loop-r : goal.invariant-loop-r
invariant-loop-r g l = Standing g.P.Drawing.plan l.w l.x l.y l.initial.back l.back l.to l.r
