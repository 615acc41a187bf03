use mathlib.Core.Path.{refl}
use native.Mathlib.Omega.{arith}
use Rattle.video1.proofs.Walk.{walked_start, walked_end, walked_on, refuses_24, refuses_25, long_some}
use Rattle.video1.proofs.judge.Goals as goal

pub loop-k-init : goal.loop-k-init
loop-k-init c = walked_start _ _

pub returns-then-s-at : goal.returns-then-s-at
returns-then-s-at c = refuses_24 _ _ _ _ c.loop-k.invariant c.loop-k-test.true _ c.code_at-code.ensures _ _ c.long-long.ensures refl c.if-s-at.true

pub returns-then-total-k : goal.returns-then-total-k
returns-then-total-k c = refuses_25 _ _ _ _ c.loop-k.invariant c.loop-k-test.true _ c.code_at-code.ensures _ _ c.long-long.ensures c.passed-n.ensures c.if-s-at.false c.if-total-k.true

pub loop-k-smaller : goal.loop-k-smaller
loop-k-smaller c = omega (arith, (long_some c.code_at-code.result).0, c.long-long.ensures)

pub loop-k-preserved : goal.loop-k-preserved
loop-k-preserved c = walked_on _ _ _ _ c.loop-k.invariant c.loop-k-test.true _ c.code_at-code.ensures _ _ c.long-long.ensures c.passed-n.ensures c.if-s-at.false c.if-total-k.false

pub returns : goal.returns
returns c = walked_end _ _ _ _ c.loop-k.invariant c.loop-k-test.false _ c.judge_end.ensures
