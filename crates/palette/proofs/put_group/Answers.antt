use native.Mathlib.Omega.{arith}
use Rattle.palette.proofs.Masks.{masking_start, masking_next, masking_there, masking_more}
use Rattle.palette.proofs.put_group.Goals as goal

pub loop-i-init : goal.loop-i-init
loop-i-init g c = masking_start _ _ _ _ _ _ _

pub put_bytes-then-requires-clause-next : goal.put_bytes-then-requires-clause-next
put_bytes-then-requires-clause-next g c = masking_next _ _ _ _ _ _ _ _ _ _ _ _ c.loop-i.invariant c.loop-i-test.true _ c.requires.next

pub put_bytes-then-requires-clause-n_in_bounds : goal.put_bytes-then-requires-clause-n_in_bounds
put_bytes-then-requires-clause-n_in_bounds g c = masking_there _ _ _ _ _ _ _ _ _ _ _ _ c.loop-i.invariant c.loop-i-test.true c.requires.group

pub overflow_add-next : goal.overflow_add-next
overflow_add-next g c = omega (arith, masking_there _ _ _ _ _ _ _ _ _ _ _ _ c.loop-i.invariant c.loop-i-test.true c.requires.group)

pub loop-i-preserved : goal.loop-i-preserved
loop-i-preserved g c = masking_more _ _ _ _ _ _ _ _ _ _ _ _ c.loop-i.invariant c.loop-i-test.true _ c.put_bytes-then.ensures.palette_after _ c.put_bytes-then.ensures.value
