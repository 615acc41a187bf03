-- What the functions of a trace ask of their callers.
-- Assumes nothing.
use Rattle.std.specs.Prelude.{◌≡◌, false, ℕ, ◌<◌}
use Rattle.packet.specs.Packet.{Packet, width, height}
use Rattle.packet.specs.Asked.{Sized}
use Rattle.packet.specs.Accepted.{Whole}

-- an 8-bit packet whose blocks are all taken, and a position inside its picture
pub record Traceable (p : Packet) (x y : ℕ) : Type 0 where
  pub flat : p.deep ≡ false
  pub sized : Sized p
  pub taken : Whole p
  pub across : x < width p
  pub down : y < height p
