use native.Mathlib.Omega.{arith}
use Rattle.salvage.proofs.Writing.{puts_end, puts_none}
use Rattle.salvage.proofs.put_closing.Goals as goal

pub returns-then-closing-eq8 : goal.returns-then-closing-eq8
returns-then-closing-eq8 c = puts_end _ _ c.args.at c.args.room.now c.put_run.new.room c.put_run-then-closing-eq8.new.room c.put_run-then-closing-eq8-2.new.room _ c.closing.ensures c.if-closing-eq8.true (omega (arith, c.requires)) c.put_run.ensures c.put_run-then-closing-eq8.ensures c.put_run-then-closing-eq8-2.ensures c.put_run-then-closing-eq8-3.ensures

pub returns-else-closing-eq8 : goal.returns-else-closing-eq8
returns-else-closing-eq8 c = puts_none _ _ _ _ c.closing.ensures c.if-closing-eq8.false
