-- A packet with its map and size (document 01, "Packet, blocks, place"; document 02, W7). Blocks are 8x8, left to right, then down; the size is counted in them.
-- Assumes nothing.
use Rattle.std.specs.Prelude.{Bool, true, false, List, [], ℕ, zero, suc, ◌+◌, ◌-◌, ◌*◌, ◌/◌, ◌%◌, take, drop}
use Rattle.words.specs.Word.{word_at}
use Rattle.block.specs.Block.{Kind, code_at, kind_of, data_length, offset_length}

-- deep: the film has true colour. How many blocks a picture is wide and high, the map, the packet's data bytes, and the bytes of its second part, the offsets of
-- codes 2 to 4 of a film with true colour
pub record Packet : Type 0 where
  pub deep : Bool
  pub columns : ℕ
  pub rows : ℕ
  pub map : List ℕ
  pub bytes : List ℕ
  pub offsets : List ℕ

abbrev pub parted : Bool → ℕ → ℕ → List ℕ → List ℕ → List ℕ → Packet
parted deep columns rows map bytes offsets = record { deep = deep; columns = columns; rows = rows; map = map; bytes = bytes; offsets = offsets }

-- a packet of an 8-bit film, which has no second part
abbrev pub packet : ℕ → ℕ → List ℕ → List ℕ → Packet
packet columns rows map bytes = parted false columns rows map bytes []

-- the packet of a film with true colour begins with a word: where its second part begins, counted from the packet's start. The first part stands between the two
unfoldable pub offsets_at : List ℕ → ℕ
offsets_at bytes = word_at bytes 0

unfoldable pub first_part : List ℕ → List ℕ
first_part bytes = take (offsets_at bytes - 2) (drop 2 bytes)

unfoldable pub second_part : List ℕ → List ℕ
second_part bytes = drop (offsets_at bytes) bytes

-- both parts, for both widths
abbrev pub bytes_in : Bool → List ℕ → List ℕ
bytes_in false bytes = bytes
bytes_in true bytes = first_part bytes

abbrev pub offsets_in : Bool → List ℕ → List ℕ
offsets_in false bytes = []
offsets_in true bytes = second_part bytes

-- a packet as it stands in a film
abbrev pub packet_in : Bool → ℕ → ℕ → List ℕ → List ℕ → Packet
packet_in deep columns rows map bytes = parted deep columns rows map (bytes_in deep bytes) (offsets_in deep bytes)

abbrev pub blocks : Packet → ℕ
blocks p = p.columns * p.rows

-- pixels in a row, rows of pixels
abbrev pub width : Packet → ℕ
width p = 8 * p.columns

abbrev pub height : Packet → ℕ
height p = 8 * p.rows

-- the pixels of a picture: rows of pixels times pixels in a row
abbrev pub pixels : ℕ → ℕ → ℕ
pixels columns rows = 8 * rows * (8 * columns)

-- of block k: its corner, its code
abbrev pub left : Packet → ℕ → ℕ
left p k = 8 * (k % p.columns)

abbrev pub top : Packet → ℕ → ℕ
top p k = 8 * (k / p.columns)

abbrev pub code : Packet → ℕ → ℕ
code p k = code_at p.map k

-- where its data begins in each part, found from the map and the data in front of it
pub record Position : Type 0 where
  pub bytes : ℕ
  pub offsets : ℕ

abbrev pub position : ℕ → ℕ → Position
position d o = record { bytes = d; offsets = o }

unfoldable pub advanced : Bool → Kind → Position → Position
advanced deep κ a = position (a.bytes + data_length deep κ) (a.offsets + offset_length κ)

unfoldable pub start_of : Bool → List ℕ → List ℕ → List ℕ → ℕ → Position
start_of deep map bytes offsets zero = position 0 0
start_of deep map bytes offsets (suc k) =
    advanced deep
    (kind_of deep (code_at map k) (drop (start_of deep map bytes offsets k).bytes bytes) (drop (start_of deep map bytes offsets k).offsets offsets))
    (start_of deep map bytes offsets k)

abbrev pub start : Packet → ℕ → Position
start p k = start_of p.deep p.map p.bytes p.offsets k

-- both parts from there on, and the block's kind
abbrev pub data_of : Packet → ℕ → List ℕ
data_of p k = drop (start p k).bytes p.bytes

abbrev pub offsets_of : Packet → ℕ → List ℕ
offsets_of p k = drop (start p k).offsets p.offsets

abbrev pub kind : Packet → ℕ → Kind
kind p k = kind_of p.deep (code p k) (data_of p k) (offsets_of p k)

-- the block that pixel a stands in, in a picture some columns of blocks wide
unfoldable pub block_of : ℕ → ℕ → ℕ
block_of columns a = a / (8 * columns) / 8 * columns + a % (8 * columns) / 8
