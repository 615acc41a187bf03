use Rattle.std.proofs.Common.{◌≡◌, ◌-◌}
use Rattle.packet.specs.Rows.{first_from}
use Rattle.packet.proofs.first_touched.Given as goal

abbrev pub invariant-loop-k : goal.invariant-loop-k
invariant-loop-k l = first_from l.u l.map (l.n - l.k) l.k ≡ first_from l.u l.map l.n 0
