-- What the encoder chooses for one 8x8 (document 02, W10). A block's 64 pixels are a function of the pixel's number: pixel i is in row i / 8, column i % 8.
-- Assumes nothing.
use Rattle.std.specs.Prelude.{◌≡◌, Bool, false, cond, List, [], ◌∷◌, ℕ, zero, suc, ◌+◌, ◌*◌, ◌/◌, ◌%◌, ◌≤◌, ◌<◌, eqb, ltb, length, get_or}
use Rattle.motion.specs.Motion.{raster_index}
use Rattle.block.specs.Block.{byte_kind, data_length, cell_source, dither_source}
use Rattle.paint.specs.Value.{byte_value}
use Rattle.choice.specs.declared.Way.{Way}
use Rattle.choice.specs.declared.Way.TheVariants.{Same, Kept, One, Dither, Coarse, Four, Fine, Two, Raw}

-- ---- what is asked of a choice

-- the codes that an encoder may choose: 0, 1, 7 and B to F
pub data Chosen : ℕ → Type 0 where
  code_0 : Chosen 0
  code_1 : Chosen 1
  code_7 : Chosen 7
  code_B : Chosen 11
  code_C : Chosen 12
  code_D : Chosen 13
  code_E : Chosen 14
  code_F : Chosen 15

-- pixel i of the 8x8 at x, y of a picture w pixels wide
abbrev pub pixel_at : List ℕ → ℕ → ℕ → ℕ → ℕ → ℕ
pixel_at picture w x y i = get_or picture (raster_index w x y i) 0

-- a code with data bytes, just as many as it has, that give the wanted 8x8 in its place
pub record Reproduces (wanted front back : List ℕ) (w x y code : ℕ) (bytes : List ℕ) : Type 0 where
  pub chosen : Chosen code
  pub long : length bytes ≡ data_length false (byte_kind code bytes)
  pub same : (i : ℕ) → i < 64 → byte_value code bytes w x y front i back ≡ pixel_at wanted w x y i

-- no other choice has fewer data bytes, and none of as many has a lower code
pub record Best (wanted front back : List ℕ) (w x y code : ℕ) (bytes : List ℕ) : Type 0 where
  pub gives : Reproduces wanted front back w x y code bytes
  pub fewest : (c : ℕ) (s : List ℕ) → Reproduces wanted front back w x y c s → length bytes ≤ length s
  pub lowest : (c : ℕ) (s : List ℕ) → Reproduces wanted front back w x y c s → length s ≡ length bytes → code ≤ c

-- ---- tests of pixels

-- the first of n numbers from i on that fails a test, i + n where none does
unfoldable pub first_of : ℕ → (ℕ → Bool) → ℕ → ℕ
first_of zero test i = i
first_of (suc n) test i = cond (test i) (first_of n test (suc i)) i

-- the first pixel in which two 8x8 differ, 64 where they are the same
unfoldable pub first_differing : (ℕ → ℕ) → (ℕ → ℕ) → ℕ
first_differing f g = first_of 64 (λ i. eqb (f i) (g i)) 0

-- the first n of both are the same
unfoldable pub same_to : ℕ → (ℕ → ℕ) → (ℕ → ℕ) → Bool
same_to n f g = eqb (first_of n (λ i. eqb (f i) (g i)) 0) n

abbrev pub same_all : (ℕ → ℕ) → (ℕ → ℕ) → Bool
same_all f g = same_to 64 f g

-- the first pixel of cell n of side c, cells left to right, then down
unfoldable pub cell_first : ℕ → ℕ → ℕ
cell_first c n = n / (8 / c) * c * 8 + n % (8 / c) * c

-- the 8x8 made of the first pixels of its cells of side c; of its first two pixels in turn
unfoldable pub by_cells : ℕ → (ℕ → ℕ) → ℕ → ℕ
by_cells c f i = f (cell_first c (cell_source c i))

unfoldable pub by_dither : (ℕ → ℕ) → ℕ → ℕ
by_dither f i = f (dither_source i)

unfoldable pub celled_by : ℕ → (ℕ → ℕ) → Bool
celled_by c f = same_all f (by_cells c f)

unfoldable pub dithered_by : (ℕ → ℕ) → Bool
dithered_by f = same_all f (by_dither f)

-- the colour of the first pixel that differs from pixel 0; pixel 0's where none does
unfoldable pub other : (ℕ → ℕ) → ℕ
other f = cond (eqb (first_differing f (λ i. f 0)) 64) (f 0) (f (first_differing f (λ i. f 0)))

-- every pixel has pixel 0's colour or the other
unfoldable pub two_colours : (ℕ → ℕ) → Bool
two_colours f = same_all f (λ i. cond (eqb (f i) (f 0)) (f 0) (other f))

-- ---- the ways to give an 8x8, the cheaper first

abbrev pub code_of : Way → ℕ
code_of Same = 0
code_of Kept = 1
code_of One = 14
code_of Dither = 15
code_of Coarse = 7
code_of Four = 13
code_of Fine = 7
code_of Two = 12
code_of Raw = 11

-- the list of n values, from i on
unfoldable pub listed : ℕ → (ℕ → ℕ) → ℕ → List ℕ
listed zero f i = []
listed (suc n) f i = f i ∷ listed n f (suc i)

-- 1 for a pixel of this colour
unfoldable pub mark : ℕ → ℕ → ℕ
mark v u = cond (eqb v u) 1 0

-- the marks of n pixels from pixel c on, a bit each, the first in the lowest bit; eight make a byte
unfoldable pub marks : (ℕ → ℕ) → ℕ → ℕ → ℕ → ℕ
marks f u zero c = 0
marks f u (suc n) c = mark (f c) u + 2 * marks f u n (suc c)

abbrev pub bits : (ℕ → ℕ) → ℕ → ℕ
bits f u = marks f u 8 0

-- the lower and the higher of the two colours
unfoldable pub lower : (ℕ → ℕ) → ℕ
lower f = cond (ltb (f 0) (other f)) (f 0) (other f)

unfoldable pub higher : (ℕ → ℕ) → ℕ
higher f = cond (ltb (f 0) (other f)) (other f) (f 0)

unfoldable pub cell_data : ℕ → (ℕ → ℕ) → List ℕ
cell_data c f = listed (8 / c * (8 / c)) (λ n. f (cell_first c n)) 0

-- code 7: a rising pair and a bit a pixel, or a falling pair and a bit a 2x2; a set bit names the second colour
unfoldable pub fine_data : (ℕ → ℕ) → List ℕ
fine_data f = lower f ∷ higher f ∷ listed 8 (λ r. bits (λ c. f (cell_first 1 (8 * r + c))) (higher f)) 0

unfoldable pub coarse_data : (ℕ → ℕ) → List ℕ
coarse_data f = higher f ∷ lower f ∷ listed 2 (λ r. bits (λ c. f (cell_first 2 (8 * r + c))) (lower f)) 0

unfoldable pub data_by : Way → (ℕ → ℕ) → List ℕ
data_by Same f = []
data_by Kept f = []
data_by One f = cell_data 8 f
data_by Dither f = f 0 ∷ f 1 ∷ []
data_by Coarse f = coarse_data f
data_by Four f = cell_data 4 f
data_by Fine f = fine_data f
data_by Two f = cell_data 2 f
data_by Raw f = cell_data 1 f

abbrev pub length_by : Way → ℕ
length_by Same = 0
length_by Kept = 0
length_by One = 1
length_by Dither = 2
length_by Coarse = 4
length_by Four = 4
length_by Fine = 10
length_by Two = 16
length_by Raw = 64

-- the first that gives the pixels f by data bytes, by five tests
abbrev pub pick : Bool → Bool → Bool → Bool → Bool → Way
pick one dither two four colours =
    cond one One (cond dither Dither (cond (cond two colours false) Coarse (cond four Four (cond colours Fine (cond two Two Raw)))))

unfoldable pub drawn_by : (ℕ → ℕ) → Way
drawn_by f = pick (celled_by 8 f) (dithered_by f) (celled_by 2 f) (celled_by 4 f) (two_colours f)

-- the first that gives the wanted pixels f, where front has g there and back h
unfoldable pub choice : (ℕ → ℕ) → (ℕ → ℕ) → (ℕ → ℕ) → Way
choice f g h =
    cond (same_all f g) Same (cond (same_all f h) Kept (drawn_by f))
