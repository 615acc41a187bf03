use mathlib.Core.Path.{refl}
use native.Mathlib.Omega.{arith}
use Rattle.packet.specs.Packet.{start_of}
use Rattle.packet.proofs.Walk.{position_next, data_few, offset_few}
use Rattle.word_packet.proofs.data_positions.Goals as goal

pub loop-i-init : goal.loop-i-init
unfolding start_of
loop-i-init c = (refl, omega arith, omega arith)

pub overflow_add-at : goal.overflow_add-at
overflow_add-at c = omega (arith, data_few _ _ _ _ c.code_at-code.ensures.1 c.data_length-at.ensures)

pub overflow_add-aside : goal.overflow_add-aside
overflow_add-aside c = omega (arith, offset_few _ _ _ c.code_at-code.ensures.1 c.offset_length-aside.ensures)

pub loop-i-preserved : goal.loop-i-preserved
loop-i-preserved c = (position_next _ _ _ _ _ _ _ _ _ _ _ _ c.loop-i.invariant.0 c.code_at-code.ensures.0 c.part_from.ensures refl (c.data_length-at.ensures _) (c.offset_length-aside.ensures _ _), omega (arith, data_few _ _ _ _ c.code_at-code.ensures.1 c.data_length-at.ensures), omega (arith, offset_few _ _ _ c.code_at-code.ensures.1 c.offset_length-aside.ensures))
