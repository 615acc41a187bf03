-- One 8x8 block (document 01, "Packet, blocks, place"; document 02, W7): what its code, and its data from its first byte on, say of each of its 64 pixels.
-- Both kinds of film have one table. deep: the film has true colour, a pixel is a word of 15 bits, and the offsets of codes 2 to 4 stand in a second part of the packet.
-- Every pixel has one source: a byte of the block's data, or a pixel of a picture. Its value is what stands there.
-- "Last" is the shown picture (document 01's front), "new" the one that is drawn on, "oldest" the one two frames old. In 8-bit films the oldest is the one that is drawn on (document 01's back).
-- Assumes nothing.
use Rattle.std.specs.Prelude.{Bool, true, false, cond, List, [], ◌∷◌, ℕ, ◌+◌, ◌*◌, ◌/◌, ◌%◌, eqb, get_or}
use Rattle.words.specs.Word.{word_at}
use Rattle.pattern.specs.declared.Form.{Form}
use Rattle.pattern.specs.Form.{shape, form7, form8, form9, form_a}
use Rattle.pattern.specs.Pattern.{pattern_length, pattern_source}
use Rattle.motion.specs.declared.Vector.{Vector}
use Rattle.motion.specs.Motion.{ahead_vector, negated, near_vector, far_vector, points_inside, raster_index, copied_index}
use Rattle.block.specs.declared.Picture.{Picture}
use Rattle.block.specs.declared.Picture.TheVariants.{Last, New, Oldest}
use Rattle.block.specs.declared.Source.{Source}
use Rattle.block.specs.declared.Source.TheVariants.{Data, Copied}

-- ---- the map

-- the code of block k: one nibble a block, low nibble first
unfoldable pub code_at : List ℕ → ℕ → ℕ
code_at map k = cond (eqb (k % 2) 0) (get_or map (k / 2) 0 % 16) (get_or map (k / 2) 0 / 16 % 16)

-- ---- the kind of a block

-- the side of a cell that has one colour
pub data Side : Type 0 where
  one two four eight : Side

abbrev pub pixels : Side → ℕ
pixels one = 1
pixels two = 2
pixels four = 4
pixels eight = 8

-- same: the same block of a picture. kept: untouched. copied: the 8x8 of a picture that a vector points at; the vector takes so many bytes of the block's data, and so many
-- of the packet's second part. patterned: fields that choose colours. celled: a colour a cell. dithered: two colours in turn. refused: a code that no 8-bit film has
pub data Kind : Type 0 where
  same : Picture → Kind
  kept : Kind
  copied : Picture → Vector → ℕ → ℕ → Kind
  patterned : Form → Kind
  celled : Side → Kind
  dithered refused : Kind

-- codes 2 to 4, whose byte is in the second part in a film with true colour
abbrev pub offset : Bool → Picture → Vector → Kind
offset deep picture v = copied picture v (cond deep 0 1) (cond deep 1 0)

-- codes 0 to F in turn, of a block whose data begins with s, where the second part is o from there on; bytes that are missing are read as 0
unfoldable pub kinds : Bool → List ℕ → List ℕ → List Kind
kinds deep s o =
    same Last
    ∷ cond deep (same Oldest) kept
    ∷ offset deep Oldest (ahead_vector (get_or (cond deep o s) 0 0))
    ∷ offset deep New (negated (ahead_vector (get_or (cond deep o s) 0 0)))
    ∷ offset deep Last (near_vector (get_or (cond deep o s) 0 0))
    ∷ copied Last (far_vector (get_or s 0 0) (get_or s 1 0)) 2 0
    ∷ cond deep (copied Oldest (far_vector (get_or s 0 0) (get_or s 1 0)) 2 0) refused
    ∷ patterned (form7 deep s)
    ∷ patterned (form8 deep s)
    ∷ patterned (form9 deep s)
    ∷ patterned (form_a deep s)
    ∷ celled one
    ∷ celled two
    ∷ celled four
    ∷ celled eight
    ∷ cond deep (same Oldest) dithered
    ∷ []

unfoldable pub kind_of : Bool → ℕ → List ℕ → List ℕ → Kind
kind_of deep code s o = get_or (kinds deep s o) code refused

-- the same in an 8-bit film, whose packets have no second part
abbrev pub byte_kind : ℕ → List ℕ → Kind
byte_kind code s = kind_of false code s []

-- ---- what a kind needs

-- the bytes of n colours; colour n, counted from 0, begins behind so many
abbrev pub colour_bytes : Bool → ℕ → ℕ
colour_bytes false n = n
colour_bytes true n = 2 * n

-- data bytes
unfoldable pub data_length : Bool → Kind → ℕ
data_length deep (same p) = 0
data_length deep kept = 0
data_length deep (copied p v n m) = n
data_length deep (patterned f) = pattern_length (shape deep f)
data_length deep (celled c) = colour_bytes deep (8 / pixels c * (8 / pixels c))
data_length deep dithered = colour_bytes deep 2
data_length deep refused = 0

-- bytes of the second part
unfoldable pub offset_length : Kind → ℕ
offset_length (same p) = 0
offset_length kept = 0
offset_length (copied p v n m) = m
offset_length (patterned f) = 0
offset_length (celled c) = 0
offset_length dithered = 0
offset_length refused = 0

-- the code is one that is refused
unfoldable pub is_refused : Kind → Bool
is_refused (same p) = false
is_refused kept = false
is_refused (copied p v n m) = false
is_refused (patterned f) = false
is_refused (celled c) = false
is_refused dithered = false
is_refused refused = true

-- the 8x8 that a block at x, y is copied from lies inside a picture w by h
unfoldable pub copy_inside : Kind → ℕ → ℕ → ℕ → ℕ → Bool
copy_inside (same p) w h x y = true
copy_inside kept w h x y = true
copy_inside (copied p v n m) w h x y = points_inside v w h x y
copy_inside (patterned f) w h x y = true
copy_inside (celled c) w h x y = true
copy_inside dithered w h x y = true
copy_inside refused w h x y = true

-- ---- the source of a pixel

-- number of the colour of a block with a colour for each cell n pixels wide and high
unfoldable pub cell_source : ℕ → ℕ → ℕ
cell_source n i = i / 8 / n * (8 / n) + i % 8 / n

-- number of the colour of a block of two colours in turn, rows in turn
unfoldable pub dither_source : ℕ → ℕ
dither_source i = (i / 8 + i % 8) % 2

-- the source of pixel i of a block at x, y, whose data is s, in pictures w pixels wide
unfoldable pub source : Bool → Kind → List ℕ → ℕ → ℕ → ℕ → ℕ → Source
source deep (same p) s w x y i = Copied p (raster_index w x y i)
source deep kept s w x y i = Copied Oldest (raster_index w x y i)
source deep (copied p v n m) s w x y i = Copied p (copied_index v w x y i)
source deep (patterned f) s w x y i = Data (pattern_source (shape deep f) s i)
source deep (celled c) s w x y i = Data (colour_bytes deep (cell_source (pixels c) i))
source deep dithered s w x y i = Data (colour_bytes deep (dither_source i))
source deep refused s w x y i = Data 0

-- the colour that begins at byte j: a byte, or a word
abbrev pub colour_at : Bool → List ℕ → ℕ → ℕ
colour_at false s j = get_or s j 0
colour_at true s j = word_at s j

-- every stored word has its high bit cleared
abbrev pub stored : Bool → ℕ → ℕ
stored false v = v
stored true v = v % 32768

-- one of three pictures
abbrev pub pictured : {A : Type 0} → Picture → A → A → A → A
pictured Last last new oldest = last
pictured New last new oldest = new
pictured Oldest last new oldest = oldest

-- what stands there, as it is stored
unfoldable pub fetched : Bool → Source → List ℕ → List ℕ → List ℕ → List ℕ → ℕ
fetched deep (Data j) s last new oldest = stored deep (colour_at deep s j)
fetched deep (Copied p j) s last new oldest = stored deep (get_or (pictured p last new oldest) j 0)
