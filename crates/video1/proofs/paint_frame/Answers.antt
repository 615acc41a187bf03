use mathlib.Core.Path.{refl}
use native.Mathlib.Omega.{arith}
use Rattle.video1.proofs.Walk.{long_some}
use Rattle.video1.proofs.Frames.{drawing_start, drawing_asks, drawing_on, long_fits, passed_fits, below_few, standing_right, up_room, standing_up, legals_of}
use Rattle.video1.proofs.paint_frame.Goals as goal

pub loop-k-init : goal.loop-k-init
loop-k-init c = drawing_start _ _ _ _

pub paint_code-requires : goal.paint_code-requires
paint_code-requires c = record { plan = refl; stands = (drawing_asks _ _ _ _ _ _ _ _ _ c.loop-k.invariant c.requires c.loop-k-test.true, c.code_at-code.ensures) }

pub overflow_add-at : goal.overflow_add-at
overflow_add-at c = omega (arith, long_fits _ _ _ _ _ _ _ _ _ c.loop-k.invariant c.requires c.loop-k-test.true _ _ _ c.code_at-code.ensures c.long-at.ensures c.passed-n.ensures, c.loop-k.invariant.walked.within)

pub overflow_add-k : goal.overflow_add-k
overflow_add-k c = omega (arith, passed_fits _ _ _ _ _ _ _ _ _ c.loop-k.invariant c.requires c.loop-k-test.true _ _ _ c.code_at-code.ensures c.long-at.ensures c.passed-n.ensures, c.loop-k.invariant.walked.below, legals_of _ _ c.requires.sized)

pub overflow_add-below : goal.overflow_add-below
overflow_add-below c = omega (arith, below_few c.args.columns c.args.rows c.loop-k.k c.requires.sized, c.loop-k.invariant.standing.over)

pub overflow_sub-below : goal.overflow_sub-below
overflow_sub-below c = up_room _ _ _ _ _ c.requires.sized c.loop-k.invariant.standing _ c.if-n-eq1.true c.if-right-eq0.true c.loop-k-test.true

pub loop-k-smaller-then-right-eq0 : goal.loop-k-smaller-then-right-eq0
loop-k-smaller-then-right-eq0 c = omega (arith, long_fits _ _ _ _ _ _ _ _ _ c.loop-k.invariant c.requires c.loop-k-test.true _ _ _ c.code_at-code.ensures c.long-at.ensures c.passed-n.ensures, c.loop-k.invariant.walked.within, (long_some c.code_at-code.result).0, c.long-at.ensures)

pub loop-k-preserved-then-right-eq0 : goal.loop-k-preserved-then-right-eq0
loop-k-preserved-then-right-eq0 c = drawing_on _ _ _ _ _ _ _ _ _ c.loop-k.invariant c.requires c.loop-k-test.true _ _ _ c.code_at-code.ensures c.long-at.ensures c.passed-n.ensures _ c.paint_code.ensures _ _ (standing_up _ _ _ _ _ c.requires.sized c.loop-k.invariant.standing _ c.if-n-eq1.true c.if-right-eq0.true c.loop-k-test.true)

pub loop-k-smaller-else-right-eq0 : goal.loop-k-smaller-else-right-eq0
loop-k-smaller-else-right-eq0 c = omega (arith, long_fits _ _ _ _ _ _ _ _ _ c.loop-k.invariant c.requires c.loop-k-test.true _ _ _ c.code_at-code.ensures c.long-at.ensures c.passed-n.ensures, c.loop-k.invariant.walked.within, (long_some c.code_at-code.result).0, c.long-at.ensures)

pub loop-k-preserved-else-right-eq0 : goal.loop-k-preserved-else-right-eq0
loop-k-preserved-else-right-eq0 c = drawing_on _ _ _ _ _ _ _ _ _ c.loop-k.invariant c.requires c.loop-k-test.true _ _ _ c.code_at-code.ensures c.long-at.ensures c.passed-n.ensures _ c.paint_code.ensures _ _ (standing_right _ _ _ _ _ c.requires.sized c.loop-k.invariant.standing _ c.if-n-eq1.true c.if-right-eq0.false)

pub below_of-below-requires : goal.below_of-below-requires
below_of-below-requires c = (c.requires.sized, omega (arith, passed_fits _ _ _ _ _ _ _ _ _ c.loop-k.invariant c.requires c.loop-k-test.true _ _ _ c.code_at-code.ensures c.long-at.ensures c.passed-n.ensures, c.loop-k.invariant.walked.below))

pub loop-k-smaller : goal.loop-k-smaller
loop-k-smaller c = omega (arith, long_fits _ _ _ _ _ _ _ _ _ c.loop-k.invariant c.requires c.loop-k-test.true _ _ _ c.code_at-code.ensures c.long-at.ensures c.passed-n.ensures, c.loop-k.invariant.walked.within, (long_some c.code_at-code.result).0, c.long-at.ensures)

pub loop-k-preserved : goal.loop-k-preserved
loop-k-preserved c = drawing_on _ _ _ _ _ _ _ _ _ c.loop-k.invariant c.requires c.loop-k-test.true _ _ _ c.code_at-code.ensures c.long-at.ensures c.passed-n.ensures _ c.paint_code.ensures _ _ (record { over = c.below_of-below.ensures; rest = refl })
