use Prim.Native.Nat.{◌-◌}
use lib.ListN.{length}
use Rattle.video1.proofs.Walk.{Walked}
use Rattle.video1.proofs.judge.Given as goal

abbrev pub invariant-loop-k : goal.invariant-loop-k
invariant-loop-k l = Walked l.s l.total l.at l.k

abbrev pub decreases-loop-k : goal.decreases-loop-k
decreases-loop-k l = length l.s - l.at
