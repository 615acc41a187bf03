-- What the functions of the drawing call ask of their callers.
-- Assumes nothing.
use Rattle.std.specs.Prelude.{ℕ, ◌≤◌}
use Rattle.packet.specs.Packet.{Packet, blocks, pixels}
use Rattle.packet.specs.Asked.{Sized}
use Rattle.packet.specs.Accepted.{Whole}

-- a packet whose blocks are all taken, pictures this long that hold it, and a place in it
pub record Accepted (p : Packet) (front back place : ℕ) : Type 0 where
  pub sized : Sized p
  pub taken : Whole p
  pub front_room : pixels p.columns p.rows ≤ front
  pub back_room : pixels p.columns p.rows ≤ back
  pub at : place ≤ blocks p
