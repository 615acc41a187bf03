use mathlib.Core.Path.{◌≡◌}
use Rattle.paint.proofs.Painting.{Painting}
use Rattle.rows.proofs.pattern_row.Given as goal

abbrev pub invariant-loop-j : goal.invariant-loop-j
invariant-loop-j g l = (l.m ≡ 8) × Painting g.P.Drawing.plan l.p l.initial.back 8 l.back l.j
