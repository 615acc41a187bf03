use Rattle.std.proofs.Common.{◌-◌, ◌≤◌}
use Rattle.packet_vectors.proofs.main.Given as goal

abbrev pub invariant-loop-at : goal.invariant-loop-at
invariant-loop-at l = l.n ≤ 65536

abbrev pub decreases-loop-at : goal.decreases-loop-at
decreases-loop-at l = l.n - l.at
