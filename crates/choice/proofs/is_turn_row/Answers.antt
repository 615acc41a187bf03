use native.Mathlib.Omega.{arith}
use Rattle.choice.proofs.Rows.{row_all, turn_fails, turn_fails_2}
use Rattle.choice.proofs.is_turn_row.Goals.{then-row-j-via-then-row-j, then-row-j-via-else-row-j+then-row-j-2}
use Rattle.choice.proofs.is_turn_row.Goals as goal

pub returns-then-row-j : goal.returns-then-row-j
returns-then-row-j c = elim c.then-row-j.branch [ then-row-j-via-then-row-j w ↦ turn_fails c.args.row.now c.args.u c.args.v c.loop-j.j c.loop-j.invariant c.loop-j-test.true w.if-row-j.true | then-row-j-via-else-row-j+then-row-j-2 w ↦ turn_fails_2 c.args.row.now c.args.u c.args.v c.loop-j.j c.loop-j.invariant w.if-row-j.false c.loop-j-test.true w.if-row-j-2.true ]

pub returns : goal.returns
returns c = row_all _ _ _ c.loop-j.invariant (omega (arith, c.loop-j-test.false))
