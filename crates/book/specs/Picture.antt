-- The picture of demand 2 said of its pixels, without stores, for both widths. Every pixel of every block is what stands at its source, as it is stored: a colour of its
-- block's data, or a pixel of a picture. The last picture, and in a film with true colour the oldest, are as they were found. Of an 8-bit film the oldest is the picture
-- drawn on as it was found. The new one is the picture itself: what code 3 reads of it an earlier block has drawn. What lies beyond the size is as it was found. There is
-- one such picture, and the stores leave it (`proofs/Picture`).
-- Assumes nothing.
use Rattle.std.specs.Prelude.{◌≡◌, cond, List, ℕ, ◌*◌, ◌≤◌, ◌<◌, length, get_or}
use Rattle.refusal.specs.Number.{accept}
use Rattle.block.specs.declared.Picture.TheVariants.{New}
use Rattle.block.specs.declared.Source.{Source}
use Rattle.block.specs.declared.Source.TheVariants.{Copied}
use Rattle.block.specs.Block.{source, fetched}
use Rattle.packet.specs.Packet.{Packet, blocks, width, height, left, top, data_of, kind, block_of}
use Rattle.stores.specs.Stores.{memory, final}
use Rattle.stores.specs.Calls.{whole, step, reply}
use Rattle.paint.specs.Value.{Older}
use Rattle.draw.specs.Drawing.{target_at}
use Rattle.draw.specs.Call.{Request, packet_of, older_of, call_plan, draw_verdict, calling}
use Rattle.book.specs.Demand.{Given}

-- what the rules read pixel i of block k from
abbrev pub source_at : Packet → ℕ → ℕ → Source
source_at p k i = source p.deep (kind p k) (data_of p k) (width p) (left p k) (top p k) i

-- what stands at a source of block k, where back is the picture drawn on as it was found and b the picture
unfoldable pub stands_at : Packet → Older → List ℕ → List ℕ → ℕ → Source → ℕ
stands_at p older back b k u = fetched p.deep u (data_of p k) older.last b (cond p.deep older.oldest back)

-- b is the picture of the packet p, where older are the pictures that no store changes and back is the picture drawn on as it was found
pub record Decoded (p : Packet) (older : Older) (back b : List ℕ) : Type 0 where
  pub long : length b ≡ length back
  -- pixel i of block k stands at its target
  pub drawn : (k i : ℕ) → k < blocks p → i < 64 → get_or b (target_at p k i) 0 ≡ stands_at p older back b k (source_at p k i)
  pub beyond : (t : ℕ) → height p * width p ≤ t → get_or b t 0 ≡ get_or back t 0

-- what is read of the new picture, by code 3, stands in an earlier block
abbrev pub ReadsEarlier : Packet → Type 0
ReadsEarlier p = (k i j : ℕ) → k < blocks p → i < 64 → source_at p k i ≡ Copied New j → block_of p.columns j < k

-- Demand 2, of a drawing call c that finds the picture first and place 0: which packets are taken, and which pixels result
pub record Demand2 (c : Request) (first : List ℕ) : Type 0 where
  -- c is not refused exactly when its packet is accepted, with its map and size, and the pictures are long enough
  pub taken : (draw_verdict c (memory first 0) ≡ accept → Given c first) × (Given c first → draw_verdict c (memory first 0) ≡ accept)
  -- the picture that its stores make is the packet's, and the only one
  pub picture : Given c first → Decoded (packet_of c) (older_of c) first (final (call_plan c) first)
  pub only : Given c first → (b : List ℕ) → Decoded (packet_of c) (older_of c) first b → b ≡ final (call_plan c) first
  pub earlier : Given c first → ReadsEarlier (packet_of c)
  -- allowed all stores that a picture can have, the call leaves it and answers "whole"
  pub leaves : Given c first → 312000 ≤ c.allowed.stores
      → (step calling (memory first 0) c ≡ memory (final (call_plan c) first) (blocks (packet_of c))) × ((reply calling (memory first 0) c).answer ≡ whole)
