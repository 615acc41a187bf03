-- How many pixels of a block are stored, and what each becomes.
-- Assumes nothing.
use Rattle.std.specs.Prelude.{Bool, true, false, cond, List, [], ℕ}
use Rattle.motion.specs.Motion.{raster_index}
use Rattle.block.specs.Block.{Kind, same, kept, copied, patterned, celled, dithered, refused, kind_of, byte_kind, source, fetched}
use Rattle.stores.specs.Stores.{Plan}

-- document 01: 64 for each block but code 1 of an 8-bit film
unfoldable pub pixel_count : Kind → ℕ
pixel_count (same p) = 64
pixel_count kept = 0
pixel_count (copied p v n m) = 64
pixel_count (patterned f) = 64
pixel_count (celled c) = 64
pixel_count dithered = 64
pixel_count refused = 64

-- the pictures that no store changes: the last one, and the oldest one of a film with true colour
pub record Older : Type 0 where
  pub last : List ℕ
  pub oldest : List ℕ

abbrev pub older : List ℕ → List ℕ → Older
older last oldest = record { last = last; oldest = oldest }

-- of an 8-bit film, whose oldest picture is the one that is drawn on: its second is not read
abbrev pub flat : List ℕ → Older
flat last = record { last = last; oldest = [] }

-- pixel i of a block of this kind at x, y, whose data is s, where new is the picture drawn on as it is then: what stands at its source
unfoldable pub pixel_value : Bool → Kind → List ℕ → ℕ → ℕ → ℕ → Older → ℕ → List ℕ → ℕ
pixel_value deep κ s w x y older i new = fetched deep (source deep κ s w x y i) s older.last new (cond deep older.oldest new)

-- the block as a plan of its own
abbrev pub block_plan : Bool → Kind → List ℕ → ℕ → ℕ → ℕ → Older → Plan
block_plan deep κ s w x y older =
    record { blocks = 1; size = λ k. pixel_count κ; target = λ k i. raster_index w x y i; value = λ k i b. pixel_value deep κ s w x y older i b }

-- the plan of the block that code draws at x, y in an 8-bit film: the list of its pixel stores
abbrev pub plan_of : ℕ → List ℕ → List ℕ → ℕ → ℕ → ℕ → Plan
plan_of code s front w x y = block_plan false (byte_kind code s) s w x y (flat front)

-- the same in a film with true colour (document 02, W7): a word is one store. s, o: its data in both parts
abbrev pub word_plan : ℕ → List ℕ → List ℕ → List ℕ → List ℕ → ℕ → ℕ → ℕ → Plan
word_plan code s o last oldest w x y = block_plan true (kind_of true code s o) s w x y (older last oldest)

-- a plan that stores nothing
abbrev pub no_plan : Plan
no_plan = record { blocks = 0; size = λ k. 0; target = λ k i. 0; value = λ k i b. 0 }

-- pixel i of the block that code draws at x, y in an 8-bit film
abbrev pub byte_value : ℕ → List ℕ → ℕ → ℕ → ℕ → List ℕ → ℕ → List ℕ → ℕ
byte_value code s w x y front i back = pixel_value false (byte_kind code s) s w x y (flat front) i back
