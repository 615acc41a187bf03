use Rattle.std.proofs.Common.{◌≡◌}
use Rattle.packet.specs.Rows.{past_touched}
use Rattle.packet.proofs.past_touched.Given as goal

abbrev pub invariant-loop-k : goal.invariant-loop-k
invariant-loop-k l = past_touched l.u l.map l.k ≡ past_touched l.u l.map l.n
