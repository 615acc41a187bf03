use mathlib.Core.Path.{refl}
use native.Mathlib.Omega.{arith}
use Rattle.packet.proofs.Walk.{next_flat, data_few}
use Rattle.packet.specs.Packet.{start_of}
use Rattle.packet.proofs.data_position.Goals as goal

pub loop-i-init : goal.loop-i-init
unfolding start_of
loop-i-init c = (refl, omega arith)

pub overflow_add-at : goal.overflow_add-at
overflow_add-at c = omega (arith, data_few _ _ _ _ c.code_at.ensures.1 c.data_length-at.ensures)

pub loop-i-preserved : goal.loop-i-preserved
loop-i-preserved c = (next_flat _ _ _ _ _ _ _ c.loop-i.invariant.0 c.code_at.ensures.0 c.part_from.ensures c.data_length-at.ensures, omega (arith, data_few _ _ _ _ c.code_at.ensures.1 c.data_length-at.ensures))
