-- The codes of an 8-bit frame, in the order of source document 001. Two bytes a and b say what comes: blocks to skip, or a 4x4 block of two, eight or
-- one colours. Pixel i of a block stands in row i / 4, counted from the bottom row up, and in column i % 4.
-- Assumes nothing.
use Rattle.std.specs.Prelude.{false, cond, List, ℕ, ◌+◌, ◌-◌, ◌*◌, ◌/◌, ◌%◌, ◌^◌, ltb, leb, get_or}
use Rattle.video1.specs.declared.Code.{Code}
use Rattle.video1.specs.declared.Code.TheVariants.{Skip, Two, Eight, One}

-- 0x84 <= b < 0x88: a skip of (b - 0x84) * 256 + a blocks; b < 0x80: two colours; 0x90 <= b: eight colours; else one
unfoldable pub code_of : ℕ → ℕ → Code
code_of a b =
    cond (cond (leb 132 b) (ltb b 136) false) (Skip ((b - 132) * 256 + a))
    (cond (ltb b 128) Two
    (cond (leb 144 b) Eight One))

-- the code at byte at of the data
unfoldable pub code_at : List ℕ → ℕ → Code
code_at s at = code_of (get_or s at 0) (get_or s (at + 1) 0)

-- its bytes: a and b, and then its colours
unfoldable pub long_of : Code → ℕ
long_of (Skip n) = 2
long_of Two = 4
long_of Eight = 10
long_of One = 2

-- the blocks that it passes
unfoldable pub passed_by : Code → ℕ
passed_by (Skip n) = n
passed_by Two = 1
passed_by Eight = 1
passed_by One = 1

-- the pixels that it stores in each block that it passes
unfoldable pub stores_of : Code → ℕ
stores_of (Skip n) = 0
stores_of Two = 16
stores_of Eight = 16
stores_of One = 16

-- the flag of pixel i: a0 to a7 and b0 to b7, from the lower left pixel on
unfoldable pub flag : List ℕ → ℕ → ℕ → ℕ
flag s at i = get_or s (at + i / 8) 0 / 2 ^ (i % 8) % 2

-- the quad of pixel i: 0 bottom left, 1 bottom right, 2 top left, 3 top right
unfoldable pub quad : ℕ → ℕ
quad i = 2 * (i / 8) + i % 4 / 2

-- the byte, counted from a, that gives pixel i: of the block's pair of colours or its quad's the first where the flag is set; the one colour is a
unfoldable pub source_of : Code → List ℕ → ℕ → ℕ → ℕ
source_of (Skip n) s at i = 0
source_of Two s at i = 2 + (1 - flag s at i)
source_of Eight s at i = 2 + (2 * quad i + (1 - flag s at i))
source_of One s at i = 0
