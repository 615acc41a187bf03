-- The loop keeps `Saving`: what is kept and left out so far, and how both rooms stand.
use Prim.Native.Nat.{◌-◌}
use lib.ListN.{length}
use Rattle.salvage.proofs.Passing.{Saving}
use Rattle.salvage.proofs.walk.Given as goal

abbrev pub invariant-loop-end : goal.invariant-loop-end
invariant-loop-end l = Saving l.storing l.film l.initial.room l.initial.list l.e l.w.kept l.w.lost l.w.left_out l.room l.list

abbrev pub decreases-loop-end : goal.decreases-loop-end
decreases-loop-end l = length l.film - l.e
