-- What the functions that test an 8x8 ask of their callers.
-- Assumes nothing.
use Rattle.std.specs.Prelude.{◌≡◌, List, ℕ, ◌+◌, ◌*◌, ◌^◌, ◌≤◌, ◌<◌, length, get_or}
use Rattle.paint.specs.Asked.{Square as Inside}
use Rattle.choice.specs.Choice.{pixel_at}
use Rattle.choice.specs.declared.Square.{Square}

-- cells side pixels wide and high: a shift by e divides by the side
pub record Cells (e side : ℕ) : Type 0 where
  pub few : e ≤ 3
  pub power : side ≡ 2 ^ e

-- its place stands in this picture, as wide as its own
abbrev pub Stands : Square → List ℕ → Type 0
Stands s picture = Inside s.w s.x s.y (length picture)

-- the 64 pixels in its place of this picture
abbrev pub pixels_in : Square → List ℕ → ℕ → ℕ
pixels_in s picture = pixel_at picture s.w s.x s.y

-- both of its own
abbrev pub Within : Square → Type 0
Within s = Stands s s.picture.now

abbrev pub pixels_of : Square → ℕ → ℕ
pixels_of s = pixels_in s s.picture.now

-- row r of the 8x8 with the pixels f
pub record Row (f : ℕ → ℕ) (r : ℕ) (row : List ℕ) : Type 0 where
  pub long : length row ≡ 8
  pub at : (j : ℕ) → j < 8 → get_or row j 0 ≡ f (8 * r + j)

-- byte j of a row
abbrev pub byte_at : List ℕ → ℕ → ℕ
byte_at row j = get_or row j 0
