use Prim.Native.Nat.{◌≤◌, ◌*◌}
use mathlib.Core.Path.{◌≡◌}
use mathlib.Core.Bool.{true}
use Rattle.packet.specs.Packet.{position, start_of}
use Rattle.word_packet.proofs.data_positions.Given as goal

abbrev pub invariant-loop-i : goal.invariant-loop-i
invariant-loop-i l = (position l.at l.aside ≡ start_of true l.map l.data l.offsets l.i) × (l.at ≤ 128 * l.i) × (l.aside ≤ l.i)
