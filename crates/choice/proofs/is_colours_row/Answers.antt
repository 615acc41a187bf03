use mathlib.Core.Path.{refl}
use native.Mathlib.Omega.{arith}
use Rattle.choice.proofs.Rows.{row_fails, row_all, of_neither}
use Rattle.choice.proofs.is_colours_row.Goals as goal

pub returns-then-apart-ne0 : goal.returns-then-apart-ne0
returns-then-apart-ne0 c = row_fails _ _ _ _ _ c.loop-j.invariant refl refl c.loop-j-test.true (of_neither _ _ _ _ _ (omega (arith, c.type_inv.row c.loop-j.j)) (omega arith) (omega arith) c.apart.ensures c.apart-in-loop-j.ensures c.if-apart-ne0.true)

pub returns : goal.returns
returns c = row_all _ _ _ c.loop-j.invariant c.loop-j-test.false
