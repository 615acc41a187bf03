use Rattle.paint.proofs.Painting.{Painting}
use Rattle.video1.proofs.one_row.Given as goal

abbrev pub invariant-loop-j : goal.invariant-loop-j
invariant-loop-j g l = Painting g.P.Drawing.plan l.p l.initial.pic 4 l.pic l.j
