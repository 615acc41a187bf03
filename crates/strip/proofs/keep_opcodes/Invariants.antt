-- The loop keeps `Keeping`: what is kept so far, and how the room stands.
use Prim.Native.Nat.{◌-◌}
use Rattle.strip.proofs.Keeping.{Keeping}
use Rattle.strip.proofs.keep_opcodes.Given as goal

abbrev pub invariant-loop-at : goal.invariant-loop-at
invariant-loop-at l = Keeping l.storing l.film l.stream l.p l.end l.to l.initial.room l.at l.kept l.room

abbrev pub decreases-loop-at : goal.decreases-loop-at
decreases-loop-at l = l.end - l.at
