use native.Mathlib.Omega.{arith}
use Rattle.video1.proofs.Blocks.{rising_start, rising_room, rising_row, rising_more, rising_end, counted, all_rows}
use Rattle.video1.proofs.paint_code.Goals as goal

pub loop-row-init : goal.loop-row-init
loop-row-init g c = rising_start _ _ _ _ _ _ _ c.requires.stands.0

pub overflow_sub-to : goal.overflow_sub-to
overflow_sub-to g c = rising_room _ _ _ _ _ _ _ c.requires.stands.0 _ _ _ c.loop-row.invariant (counted _ _ _ _ _ c.stores-row-end.ensures c.requires.stands.1 c.loop-row-test.true)

pub paint_row-requires : goal.paint_row-requires
paint_row-requires g c = (c.requires.stands.1, rw c.requires.plan (rising_row _ _ _ _ _ _ _ c.requires.stands.0 _ _ _ c.loop-row.invariant (counted _ _ _ _ _ c.stores-row-end.ensures c.requires.stands.1 c.loop-row-test.true)))

pub loop-row-preserved : goal.loop-row-preserved
loop-row-preserved g c = rising_more _ _ _ _ _ _ _ c.requires.stands.0 _ _ _ c.loop-row.invariant (counted _ _ _ _ _ c.stores-row-end.ensures c.requires.stands.1 c.loop-row-test.true) _ (rw c.requires.plan at c.paint_row.ensures) (omega arith)

pub returns : goal.returns
returns g c = rw c.requires.plan (rising_end _ _ _ _ _ _ _ c.requires.stands.0 _ _ _ c.loop-row.invariant _ _ c.stores-row-end.ensures c.requires.stands.1 (all_rows _ _ _ c.stores-row-end.ensures c.loop-row-test.false))
