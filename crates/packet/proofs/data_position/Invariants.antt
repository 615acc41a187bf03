use Prim.Native.Nat.{◌≤◌, ◌*◌}
use mathlib.Core.Path.{◌≡◌}
use mathlib.Core.Bool.{false}
use mathlib.Core.List.{[]}
use Rattle.packet.specs.Packet.{start_of}
use Rattle.packet.proofs.data_position.Given as goal

abbrev pub invariant-loop-i : goal.invariant-loop-i
invariant-loop-i l = (l.at ≡ (start_of false l.map l.data [] l.i).bytes) × (l.at ≤ 128 * l.i)
