-- What the drawing of a packet with true colour asks of its caller: what the tests of a call leave known.
-- Assumes nothing.
use Rattle.std.specs.Prelude.{true, List, ℕ}
use Rattle.packet.specs.Packet.{packet_in}
use Rattle.packet.specs.Accepted.{InTwo}
use Rattle.word_draw.specs.Asked.{WordAccepted}

-- a packet whose parts are there and whose blocks are all taken, pictures this long that hold it, and a place in it
pub record Judged (columns rows : ℕ) (map bytes : List ℕ) (last oldest new place : ℕ) : Type 0 where
  pub parts : InTwo bytes
  pub accepted : WordAccepted (packet_in true columns rows map bytes) last new oldest place
