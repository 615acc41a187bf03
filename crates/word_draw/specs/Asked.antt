-- What the loop over the blocks of a packet with true colour asks of its caller.
-- Assumes nothing.
use Rattle.std.specs.Prelude.{ℕ, ◌≤◌}
use Rattle.packet.specs.Packet.{Packet, pixels}
use Rattle.draw.specs.Asked.{Accepted}

-- as with 8-bit films, and an oldest picture this long holds the size, too
pub record WordAccepted (p : Packet) (last new oldest place : ℕ) : Type 0 where
  pub accepted : Accepted p last new place
  pub oldest_room : pixels p.columns p.rows ≤ oldest
