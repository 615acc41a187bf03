-- Motion vectors of codes 2 to 5 (document 01, "Packet, blocks, place"), the 8x8 that one points at, and where a pixel stands in a picture.
-- No number is negative: a vector is how far right and down, and how far left and up of that, so negating it swaps the two.
-- Assumes nothing.
use Rattle.std.specs.Prelude.{◌≡◌, ◌⊎◌, Bool, true, false, cond, ℕ, ◌+◌, ◌-◌, ◌*◌, ◌/◌, ◌%◌, ◌≤◌, ltb}
use Rattle.motion.specs.declared.Vector.{Vector}

-- right - left pixels along the row, down - up rows
abbrev pub vector : ℕ → ℕ → ℕ → ℕ → Vector
vector r l d u = record { right = r; left = l; down = d; up = u }

-- code 2, by its byte: (8 + b % 7, b / 7) below 56, else (-14 + (b - 56) % 29, 8 + (b - 56) / 29)
unfoldable pub ahead_vector : ℕ → Vector
ahead_vector b = cond (ltb b 56) (vector (8 + b % 7) 0 (b / 7) 0) (vector ((b - 56) % 29) 14 (8 + (b - 56) / 29) 0)

-- code 3: both offsets of code 2 negated
unfoldable pub negated : Vector → Vector
negated v = vector v.left v.right v.up v.down

-- code 4: (-8 + low nibble, -8 + high nibble)
unfoldable pub near_vector : ℕ → Vector
near_vector b = vector (b % 16) 8 (b / 16) 8

-- code 5: two signed bytes, x and y
unfoldable pub far_vector : ℕ → ℕ → Vector
far_vector x y = vector ((x + 128) % 256) 128 ((y + 128) % 256) 128

-- the 8x8 that v points at from the one at x, y lies inside a picture w by h, judged in x and in y
unfoldable pub points_inside : Vector → ℕ → ℕ → ℕ → ℕ → Bool
points_inside v w h x y =
    cond (ltb (x + v.right) v.left) false
    (cond (ltb (w + v.left) (x + v.right + 8)) false
    (cond (ltb (y + v.down) v.up) false
    (cond (ltb (h + v.up) (y + v.down + 8)) false true)))

-- the same as a statement
pub record PointsInside (v : Vector) (w h x y : ℕ) : Type 0 where
  pub left : v.left ≤ x + v.right
  pub right : x + v.right + 8 ≤ w + v.left
  pub up : v.up ≤ y + v.down
  pub down : y + v.down + 8 ≤ h + v.up

-- the index, in a picture w pixels wide, of pixel i of the 8x8 at x, y; pixel i is in row i / 8 and column i % 8
unfoldable pub raster_index : ℕ → ℕ → ℕ → ℕ → ℕ
raster_index w x y i = (y + i / 8) * w + (x + i % 8)

-- the same of the 8x8 that v points at
unfoldable pub copied_index : Vector → ℕ → ℕ → ℕ → ℕ → ℕ
copied_index v w x y i = raster_index w (x + v.right - v.left) (y + v.down - v.up) i

-- ---- what the functions ask

-- no offset is larger than a byte
pub record Short (v : Vector) : Type 0 where
  pub right : v.right ≤ 255
  pub left : v.left ≤ 255
  pub down : v.down ≤ 255
  pub up : v.up ≤ 255

-- v leads at least a block to the right or at least a block down, and never up, as the vector of code 2 does; so it leads left only with a block down
pub record Onward (v : Vector) : Type 0 where
  pub far : (v.left + 8 ≤ v.right) ⊎ (8 ≤ v.down)
  pub never_up : v.up ≡ 0

-- the 8x8 at x, y and pixel i stand in the largest picture
pub record Inside (w x y i : ℕ) : Type 0 where
  pub width : w ≤ 640
  pub across : x + 8 ≤ w
  pub down : y + 8 ≤ 480
  pub pixel : i ≤ 63
