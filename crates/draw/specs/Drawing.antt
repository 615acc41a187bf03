-- The drawing of a packet as a plan of stores, one for both widths (document 01, "Packet, blocks, place"; document 02, W7): 64 for each block but code 1 of an 8-bit
-- film, row by row, then the place.
-- Assumes nothing.
use Rattle.std.specs.Prelude.{List, ℕ}
use Rattle.motion.specs.Motion.{raster_index}
use Rattle.packet.specs.Packet.{Packet, blocks, width, left, top, data_of, kind}
use Rattle.stores.specs.Stores.{Plan}
use Rattle.paint.specs.Value.{pixel_count, Older, flat, pixel_value}

-- of block k: the pixels it stores, the index of pixel i, and its value where new is the picture drawn on as it is then
unfoldable pub size_at : Packet → ℕ → ℕ
size_at p k = pixel_count (kind p k)

unfoldable pub target_at : Packet → ℕ → ℕ → ℕ
target_at p k i = raster_index (width p) (left p k) (top p k) i

unfoldable pub value_at : Packet → Older → ℕ → ℕ → List ℕ → ℕ
value_at p older k i new = pixel_value p.deep (kind p k) (data_of p k) (width p) (left p k) (top p k) older i new

abbrev pub plan_over : Packet → Older → Plan
plan_over p older = record { blocks = blocks p; size = size_at p; target = target_at p; value = value_at p older }

-- of an 8-bit packet
abbrev pub plan : Packet → List ℕ → Plan
plan p front = plan_over p (flat front)
