-- Acceptance of a drawing call as a statement: a call is not refused exactly when this holds (`proofs/Exactly`), for both widths.
-- Assumes nothing.
use Rattle.std.specs.Prelude.{Bool, true, false, List, ℕ, ◌≤◌}
use Rattle.packet.specs.Packet.{packet_in, blocks, pixels}
use Rattle.packet.specs.Accepted.{AcceptsIn}

-- the oldest picture of a film with true colour is at least so long
abbrev pub OldestLong : Bool → ℕ → ℕ → Type 0
OldestLong false oldest long = Unit
OldestLong true oldest long = long ≤ oldest

-- the packet is accepted with its map and size, pictures this long hold it, and the place is at most the block count
pub record DrawAcceptsIn (deep : Bool) (spare columns rows : ℕ) (map bytes : List ℕ) (front oldest back place : ℕ) : Type 0 where
  pub accepted : AcceptsIn deep spare columns rows map bytes
  pub front_long : pixels columns rows ≤ front
  pub oldest_long : OldestLong deep oldest (pixels columns rows)
  pub back_long : pixels columns rows ≤ back
  pub within : place ≤ blocks (packet_in deep columns rows map bytes)

-- of an 8-bit film
abbrev pub DrawAccepts : ℕ → ℕ → ℕ → List ℕ → List ℕ → ℕ → ℕ → ℕ → Type 0
DrawAccepts spare columns rows map bytes front back place = DrawAcceptsIn false spare columns rows map bytes front 0 back place
