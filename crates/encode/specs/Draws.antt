-- What map and packet are good for: the strict check accepts them, and drawing them from place 0 gives the wanted picture, and leaves what lies beyond it.
-- Assumes nothing.
use Rattle.std.specs.Prelude.{◌≡◌, List, ℕ, ◌*◌, ◌≤◌, ◌<◌, take, drop}
use Rattle.refusal.specs.Number.{accept}
use Rattle.block.specs.Block.{data_length}
use Rattle.packet.specs.Packet.{Packet, packet, pixels, width, left, top, code, data_of, kind}
use Rattle.packet.specs.Verdict.{strict, verdict}
use Rattle.stores.specs.Stores.{memory, final}
use Rattle.stores.specs.Calls.{Event}
use Rattle.draw.specs.Drawing.{plan}
use Rattle.draw.specs.Call.{Request, request, within, pictures, leaves}
use Rattle.book.specs.Demand.{OnlyRefusedDiffer, CutsWithin, Demand3}
use Rattle.choice.specs.Choice.{Best}
use Rattle.encode.specs.Encode.{Task, data_to, map_of}

abbrev pub packet_for : Task → ℕ → Packet
packet_for j rows = packet j.columns rows (map_of j (j.columns * rows)) (data_to j (j.columns * rows))

-- the data bytes of block k, as a decoder finds them
abbrev pub bytes_of : Packet → ℕ → List ℕ
bytes_of p k = take (data_length p.deep (kind p k)) (data_of p k)

-- the picture that it gives on the lent back
abbrev pub given : Task → ℕ → List ℕ
given j rows = final (plan (packet_for j rows) j.front) j.back

-- the call that draws it in strict form, allowed so many stores
abbrev pub drawing : Task → ℕ → ℕ → Request
drawing j rows n = request j.columns rows (map_of j (j.columns * rows)) (data_to j (j.columns * rows)) j.front (within n strict)

pub record Draws (j : Task) (rows : ℕ) : Type 0 where
  pub accepts : verdict strict j.columns rows (map_of j (j.columns * rows)) (data_to j (j.columns * rows)) ≡ accept
  pub wanted : take (pixels j.columns rows) (given j rows) ≡ take (pixels j.columns rows) j.wanted
  pub beyond : drop (pixels j.columns rows) (given j rows) ≡ drop (pixels j.columns rows) j.back
  pub draws : (n : ℕ) → 312000 ≤ n → leaves (drawing j rows n) (memory j.back 0) ≡ pictures j.front (memory (given j rows) (j.columns * rows))
  -- however its drawing is cut and called again
  pub cuts : (n : ℕ) (es : List (Event Request)) → OnlyRefusedDiffer (drawing j rows n) (memory j.back 0) es → CutsWithin (memory j.back 0) es
      → Demand3 (drawing j rows n) j.back es
  pub cheapest : (k : ℕ) → k < j.columns * rows
      → Best j.wanted j.front j.back (width (packet_for j rows)) (left (packet_for j rows) k) (top (packet_for j rows) k) (code (packet_for j rows) k) (bytes_of (packet_for j rows) k)
