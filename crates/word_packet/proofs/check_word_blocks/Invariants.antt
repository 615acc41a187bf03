use mathlib.Core.Bool.{true}
use Prim.Native.Nat.{◌*◌, ◌-◌, ◌≤◌}
use Rattle.packet.specs.Packet.{parted}
use Rattle.packet.proofs.Walk.{Walked}
use Rattle.word_packet.proofs.check_word_blocks.Given as goal

abbrev pub invariant-loop-k : goal.invariant-loop-k
invariant-loop-k l = (l.right ≤ 8 * l.columns) × Walked l.spare (parted true l.columns l.rows l.map l.data l.offsets) l.k l.at l.aside (8 * l.columns - l.right) l.y
