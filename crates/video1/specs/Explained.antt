-- Which 4x4 block and which data byte give each pixel of a frame that is taken (document 02, W12), and what it leaves as lent.
-- Assumes nothing.
use Rattle.std.specs.Prelude.{◌≡◌, List, ℕ, ◌+◌, ◌-◌, ◌*◌, ◌/◌, ◌%◌, ◌≤◌, ◌<◌, length, get_or}
use Rattle.packet.specs.Packet.{pixels}
use Rattle.video1.specs.Code.{code_at, stores_of, source_of}
use Rattle.video1.specs.Frame.{block_count, position_of, spot, frame_after}

-- the block that index t stands in, and the pixel of that block that it is
unfoldable pub block_of : ℕ → ℕ → ℕ → ℕ
block_of columns rows t = (8 * rows - 1 - t / (8 * columns)) / 4 * (2 * columns) + t % (8 * columns) / 4

unfoldable pub pixel_of : ℕ → ℕ → ℕ → ℕ
pixel_of columns rows t = 4 * ((8 * rows - 1 - t / (8 * columns)) % 4) + t % (8 * columns) % 4

-- the data byte that gives pixel i of block k, counted from the data's start
unfoldable pub byte_of : List ℕ → ℕ → ℕ → ℕ
byte_of s k i = position_of s k + source_of (code_at s (position_of s k)) s (position_of s k) i

-- t is pixel i of block k
pub record Stands (columns rows t k i : ℕ) : Type 0 where
  pub block : k < block_count columns rows
  pub pixel : i < 16
  pub index : spot columns rows k i ≡ t

-- of the picture b and the data s
pub record Explained (columns rows : ℕ) (s b : List ℕ) : Type 0 where
  -- every index of the size stands in one block
  pub stands : (t : ℕ) → t < pixels columns rows → Stands columns rows t (block_of columns rows t) (pixel_of columns rows t)
  -- it has the byte that the code gives it that passes its block
  pub given : (t k i : ℕ) → Stands columns rows t k i → stores_of (code_at s (position_of s k)) ≡ 16
      → (byte_of s k i < length s) × (get_or (frame_after columns rows s b) t 0 ≡ get_or s (byte_of s k i) 0)
  -- under a skip it stays as lent
  pub skipped : (t k i : ℕ) → Stands columns rows t k i → stores_of (code_at s (position_of s k)) ≡ 0 → get_or (frame_after columns rows s b) t 0 ≡ get_or b t 0
  -- and so does every byte beyond the size
  pub beyond : (t : ℕ) → pixels columns rows ≤ t → get_or (frame_after columns rows s b) t 0 ≡ get_or b t 0
  pub long : length (frame_after columns rows s b) ≡ length b
