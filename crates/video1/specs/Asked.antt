-- What the functions ask of their callers, and what a call promises.
-- Assumes nothing.
use Rattle.std.specs.Prelude.{◌≡◌, Result, List, ℕ, ◌+◌, ◌-◌, ◌*◌, ◌/◌, ◌%◌, ◌^◌, ◌≤◌, ◌<◌, length, get_or}
use Rattle.refusal.specs.declared.Refusal.{Refusal}
use Rattle.refusal.specs.Number.{accept}
use Rattle.packet.specs.Packet.{pixels}
use Rattle.packet.specs.Verdict.{told}
use Rattle.stores.specs.Stores.{Plan}
use Rattle.rows.specs.Row.{Beside}
use Rattle.video1.specs.Code.{code_at, long_of, stores_of, quad, source_of}
use Rattle.video1.specs.Frame.{block_count, walk_verdict, frame_verdict, frame_after}

-- a size that is tested
pub record Sized (columns rows : ℕ) : Type 0 where
  pub some_columns : 1 ≤ columns
  pub columns_few : columns ≤ 80
  pub rows_few : rows ≤ 60

-- a frame that is taken, and a picture that has room
pub record Canvas (columns rows : ℕ) (s : List ℕ) (long : ℕ) : Type 0 where
  pub sized : Sized columns rows
  pub room : pixels columns rows ≤ long
  pub taken : walk_verdict s (block_count columns rows) ≡ accept

-- the index below the lower left pixel of block k, in the row of pixels under it
unfoldable pub below_of : ℕ → ℕ → ℕ → ℕ
below_of columns rows k = (8 * rows - 4 * (k / (2 * columns))) * (8 * columns) + 4 * (k % (2 * columns))

-- the code at byte at has its bytes, and block k stands in a picture that has room, over the index below
pub record Paints (columns rows : ℕ) (s : List ℕ) (at k below long : ℕ) : Type 0 where
  pub sized : Sized columns rows
  pub room : pixels columns rows ≤ long
  pub block : k < block_count columns rows
  pub there : at + long_of (code_at s at) ≤ length s
  pub over : below ≡ below_of columns rows k

-- the four pixels of a block from pixel p on, the first of a row, are the next of its plan d, and the code at byte at gives them
pub record Rowed (d : Plan) (s : List ℕ) (at p : ℕ) (b : List ℕ) (to : ℕ) : Type 0 where
  pub there : at + long_of (code_at s at) ≤ length s
  pub first : p % 4 ≡ 0
  pub size : d.size 0 ≡ stores_of (code_at s at)
  pub beside : Beside d p 4 b to (λ i. get_or s (at + source_of (code_at s at) s at (p + i)) 0)

-- the byte, counted from a, that gives pixel i of pairs of colours: those of the quads stand step bytes apart, and f is a or b, where its flag stands
unfoldable pub pair_source : ℕ → ℕ → ℕ → ℕ
pair_source step f i = 2 + (step * quad i + (1 - f / 2 ^ (i % 8) % 2))

-- the code at byte at has pairs of colours, of which those of the quads stand step bytes apart
pub record Paired (s : List ℕ) (at step : ℕ) : Type 0 where
  pub few : step ≤ 2
  pub long : 4 + 3 * step ≤ long_of (code_at s at)
  pub stores : stores_of (code_at s at) ≡ 16
  pub each : (i : ℕ) → i < 16 → pair_source step (get_or s (at + i / 8) 0) i ≡ source_of (code_at s at) s at i

-- the answer and the picture
pub record Decoded (columns rows : ℕ) (s b : List ℕ) (r : Result Unit Refusal) (b' : List ℕ) : Type 0 where
  pub answer : told r ≡ frame_verdict columns rows s (length b)
  pub after : b' ≡ frame_after columns rows s b
