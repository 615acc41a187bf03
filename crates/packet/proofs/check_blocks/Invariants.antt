use Prim.Native.Nat.{◌*◌, ◌-◌, ◌≤◌}
use Rattle.packet.specs.Packet.{packet}
use Rattle.packet.proofs.Walk.{Walked}
use Rattle.packet.proofs.Strip.{Ends}
use Rattle.packet.proofs.check_blocks.Given as goal

abbrev pub invariant-loop-k : goal.invariant-loop-k
invariant-loop-k l = Ends (packet l.columns l.rows l.map l.data) l.first l.past × (l.right ≤ 8 * l.columns) × Walked l.spare (packet l.columns l.rows l.map l.data) l.k l.at 0 (8 * l.columns - l.right) l.y
