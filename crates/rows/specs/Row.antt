-- Rows of a block, and what the functions that store them ask.
-- Assumes nothing.
use Rattle.std.specs.Prelude.{◌≡◌, Bool, List, [], ◌∷◌, ℕ, ◌+◌, ◌-◌, ◌*◌, ◌%◌, ◌≤◌, ◌<◌, length}
use Rattle.motion.specs.Motion.{raster_index}
use Rattle.block.specs.Block.{colour_bytes, cell_source, colour_at, stored}
use Rattle.block.specs.Asked.{Sided}
use Rattle.stores.specs.Stores.{Plan, further}
use Rattle.stores.specs.Loop.{Begun}
use Rattle.paint.specs.Asked.{Square}

abbrev pub colours : ℕ → ℕ → ℕ → ℕ → List ℕ
colours a b c d = a ∷ b ∷ c ∷ d ∷ []

-- colour n of a block's data, as it is stored
abbrev pub colour : Bool → List ℕ → ℕ → ℕ
colour deep s n = stored deep (colour_at deep s (colour_bytes deep n))

-- a block of 64 pixels at x, y of a picture w pixels wide: pixel i becomes value i b where the picture drawn on is b
pub record Block (d : Plan) (w x y : ℕ) (value : ℕ → List ℕ → ℕ) : Type 0 where
  pub all : 64 ≤ d.size 0
  pub targets : (i : ℕ) → i < 64 → raster_index w x y i ≡ d.target 0 i
  pub values : (i : ℕ) → i < 64 → (b : List ℕ) → value i b ≡ d.value 0 i b

-- whatever the picture drawn on is
abbrev pub Fixed : Plan → ℕ → ℕ → ℕ → (ℕ → ℕ) → Type 0
Fixed d w x y value = Block d w x y (λ i b. value i)

-- The next n pixels of a block are those from pixel p on, stored side by side from index to on. They become value 0, value 1 and so on.
pub record Beside (d : Plan) (p n : ℕ) (b : List ℕ) (to : ℕ) (value : ℕ → ℕ) : Type 0 where
  -- the pixels before them stand
  pub begun : Begun d 0 p b
  pub listed : p + n ≤ d.size 0
  pub targets : (i : ℕ) → i < n → to + i ≡ d.target 0 (p + i)
  -- each as the stores before it leave the picture
  pub values : (i : ℕ) → i < n → value i ≡ d.value 0 (p + i) (further d 0 b p i)
  pub inside : to + n ≤ length b

-- the indices differ by eight or more, so that the eight elements from the one on and the eight from the other on have none in common
abbrev pub Disjoint : ℕ → ℕ → Type 0
Disjoint from to = 8 ≤ (from - to) + (to - from)

-- p is the first pixel of a row of cells, each more than one pixel wide and high
pub record Band (side p : ℕ) : Type 0 where
  pub sided : Sided side
  pub wide : 1 < side
  pub first : p % (8 * side) ≡ 0
  pub below : p < 64

-- it is the next of a block whose cells have these colours in turn, and begins at index to of the picture b, which is w pixels wide
pub record CellBand (d : Plan) (of : ℕ → ℕ) (w side p : ℕ) (b : List ℕ) (to : ℕ) : Type 0 where
  pub x : ℕ
  pub y : ℕ
  pub block : Fixed d w x y (λ i. of (cell_source side i))
  pub band : Band side p
  pub room : Square w x y (length b)
  pub begun : Begun d 0 p b
  pub place : to ≡ raster_index w x y p
