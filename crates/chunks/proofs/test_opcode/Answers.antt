use Rattle.chunks.proofs.Testing.{opcode_inside}
use Rattle.chunks.proofs.test_opcode.Goals as goal

pub measure_opcode-requires : goal.measure_opcode-requires
measure_opcode-requires c = opcode_inside _ _ _ (rw c.in-Opcode.is at c.in_ok-found.ensures) c.requires.1
