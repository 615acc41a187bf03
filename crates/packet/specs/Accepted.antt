-- Acceptance as a statement: a packet is accepted exactly when this holds (`proofs/Exactly`).
-- Assumes nothing.
use Rattle.std.specs.Prelude.{◌≡◌, ◌≢◌, Bool, true, false, List, ℕ, ◌+◌, ◌/◌, ◌≤◌, ◌<◌, length}
use Rattle.motion.specs.Motion.{PointsInside}
use Rattle.block.specs.Block.{Kind, same, kept, copied, patterned, celled, dithered, refused, data_length, offset_length}
use Rattle.packet.specs.Packet.{Packet, offsets_at, packet_in, blocks, width, height, left, top, code, start, kind}
use Rattle.packet.specs.Verdict.{spare_first}

-- a side of the picture, from 1 block to the most
pub record Legal (most n : ℕ) : Type 0 where
  pub least : 1 ≤ n
  pub bound : n ≤ most

-- the 8x8 that a block at x, y is copied from lies inside the picture w by h
unfoldable pub CopyInside : Kind → ℕ → ℕ → ℕ → ℕ → Type 0
CopyInside (same p) w h x y = Unit
CopyInside kept w h x y = Unit
CopyInside (copied p v n m) w h x y = PointsInside v w h x y
CopyInside (patterned f) w h x y = Unit
CopyInside (celled c) w h x y = Unit
CopyInside dithered w h x y = Unit
CopyInside refused w h x y = Unit

-- block k: its code is not 6 in an 8-bit film, its bytes are there in both parts, its copy lies inside
pub record Takes (p : Packet) (k : ℕ) : Type 0 where
  pub known : p.deep ≡ false → code p k ≢ 6
  pub there : (start p k).bytes + data_length p.deep (kind p k) ≤ length p.bytes
  pub beside : (start p k).offsets + offset_length (kind p k) ≤ length p.offsets
  pub inside : CopyInside (kind p k) (width p) (height p) (left p k) (top p k)

-- every block is taken
abbrev pub Whole : Packet → Type 0
Whole p = (k : ℕ) → k < blocks p → Takes p k

-- the first word is there, and the second part begins behind it and within the packet or at its end
pub record InTwo (bytes : List ℕ) : Type 0 where
  pub word : 2 ≤ length bytes
  pub behind : 2 ≤ offsets_at bytes
  pub inside : offsets_at bytes ≤ length bytes

abbrev pub PartsFit : Bool → List ℕ → Type 0
PartsFit false bytes = Unit
PartsFit true bytes = InTwo bytes

-- n blocks use up both parts but for so many bytes that may be left over at the end of the last
pub record Used (spare : ℕ) (p : Packet) (n : ℕ) : Type 0 where
  pub first : length p.bytes ≤ (start p n).bytes + spare_first p.deep spare
  pub second : length p.offsets ≤ (start p n).offsets + spare

-- a packet whose parts are there, whose blocks are all taken, and whose bytes are used up
pub record AcceptsIn (deep : Bool) (spare columns rows : ℕ) (map bytes : List ℕ) : Type 0 where
  pub wide : Legal 80 columns
  pub high : Legal 60 rows
  pub mapped : length map ≡ (blocks (packet_in deep columns rows map bytes) + 1) / 2
  pub parts : PartsFit deep bytes
  pub drawn : Whole (packet_in deep columns rows map bytes)
  pub used : Used spare (packet_in deep columns rows map bytes) (blocks (packet_in deep columns rows map bytes))

-- an 8-bit packet
abbrev pub Accepts : ℕ → ℕ → ℕ → List ℕ → List ℕ → Type 0
Accepts spare columns rows map bytes = AcceptsIn false spare columns rows map bytes
