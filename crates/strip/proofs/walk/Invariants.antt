-- The loop keeps `Going`: what is left so far, and how the room stands.
use Prim.Native.Nat.{◌-◌}
use lib.ListN.{length}
use Rattle.strip.proofs.Walking.{Going}
use Rattle.strip.proofs.walk.Given as goal

abbrev pub invariant-loop-end : goal.invariant-loop-end
invariant-loop-end l = Going l.storing l.film l.stream l.initial.room l.e l.to l.room

abbrev pub decreases-loop-end : goal.decreases-loop-end
decreases-loop-end l = length l.film - l.e
