use mathlib.Core.Path.{refl}
use Rattle.choice.proofs.Rows.{row_fails, row_all}
use Rattle.choice.proofs.is_cells_row.Goals as goal

pub returns-then-row-j : goal.returns-then-row-j
returns-then-row-j c = row_fails _ _ _ _ _ c.loop-j.invariant refl refl c.loop-j-test.true c.if-row-j.true

pub returns : goal.returns
returns c = row_all _ _ _ c.loop-j.invariant c.loop-j-test.false
