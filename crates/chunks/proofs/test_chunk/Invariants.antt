-- The loop keeps `Testing`: the opcodes from p to at pass, and none is 00.
use Prim.Native.Nat.{◌-◌}
use Rattle.chunks.proofs.Testing.{Testing}
use Rattle.chunks.proofs.test_chunk.Given as goal

abbrev pub invariant-loop-at : goal.invariant-loop-at
invariant-loop-at l = Testing l.film l.p l.end l.at

abbrev pub decreases-loop-at : goal.decreases-loop-at
decreases-loop-at l = l.end - l.at
