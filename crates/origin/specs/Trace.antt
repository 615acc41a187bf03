-- Where the value of a pixel of an 8-bit film comes from (document 02, W9). The rules read each pixel from one source: a byte of its block's data, or a pixel of a picture
-- (`source` of the crate `block`). Here the source has the name by which a host finds it again: a byte is counted from the packet's start, a pixel has x and y. The last
-- picture is front, the oldest is back as it was lent, which codes 1 and 2 read, and the new one is read by code 3: code 2 copies from blocks that are not drawn yet,
-- code 3 from blocks that are (`book/proofs/Picture`).
-- Assumes nothing.
use Rattle.std.specs.Prelude.{cond, List, ℕ, ◌+◌, ◌*◌, ◌/◌, ◌%◌, leb, Result, Ok, Err}
use Rattle.refusal.specs.declared.Refusal.{Refusal}
use Rattle.refusal.specs.Number.{Verdict, accept, refuse, number, block}
use Rattle.block.specs.declared.Picture.{Picture}
use Rattle.block.specs.declared.Picture.TheVariants.{Last, New, Oldest}
use Rattle.block.specs.declared.Source.{Source}
use Rattle.block.specs.declared.Source.TheVariants.{Data, Copied}
use Rattle.packet.specs.Packet.{Packet, packet, width, code, start}
use Rattle.packet.specs.Verdict.{and_then, default}
use Rattle.draw.specs.Call.{call_verdict}
use Rattle.book.specs.Picture.{source_at}
use Rattle.origin.specs.declared.Origin.{Origin}
use Rattle.origin.specs.declared.Origin.TheVariants.{Byte, InFront, InBack, InNew}
use Rattle.origin.specs.declared.Traced.{Traced}

-- ---- a pixel and its source

-- the block of the pixel at x, y, in a picture so many columns of blocks wide, and which of its pixels it is
unfoldable pub block_at : ℕ → ℕ → ℕ → ℕ
block_at columns x y = y / 8 * columns + x / 8

unfoldable pub pixel_at : ℕ → ℕ → ℕ
pixel_at x y = 8 * (y % 8) + x % 8

-- a pixel of a picture
unfoldable pub picture_origin : Picture → ℕ → ℕ → Origin
picture_origin Last x y = InFront x y
picture_origin New x y = InNew x y
picture_origin Oldest x y = InBack x y

-- the source of a pixel by name: of a block whose data begins at byte `at` of the packet, in pictures w pixels wide
unfoldable pub named : ℕ → ℕ → Source → Origin
named w at (Data j) = Byte (at + j)
named w at (Copied picture j) = picture_origin picture (j % w) (j / w)

unfoldable pub origin_of : Packet → ℕ → ℕ → Origin
origin_of p k i = named (width p) (start p k).bytes (source_at p k i)

-- ---- the call

-- the block, its code and the pixel's origin; or the number and the block of a refusal
pub data Answer : Type 0 where
  found : ℕ → ℕ → Origin → Answer
  refused : ℕ → ℕ → Answer

-- document 01's values of each answer
abbrev pub told : Result Traced Refusal → Answer
told (Ok t) = found t.block t.code t.origin
told (Err r) = refused (number r) (block r)

unfoldable pub found_at : Packet → ℕ → ℕ → Answer
found_at p x y = found (block_at p.columns x y) (code p (block_at p.columns x y)) (origin_of p (block_at p.columns x y) (pixel_at x y))

-- 22: the position lies outside the picture
unfoldable pub position_verdict : ℕ → ℕ → ℕ → ℕ → Verdict
position_verdict columns rows x y = cond (leb (8 * columns) x) (refuse 22 0) (cond (leb (8 * rows) y) (refuse 22 0) accept)

-- 6, 8, 10, 12 to 15, which are the tests of a drawing call at place 0 with pictures this long; then 22
unfoldable pub trace_verdict : ℕ → ℕ → List ℕ → List ℕ → ℕ → ℕ → ℕ → ℕ → Verdict
trace_verdict columns rows map bytes front back x y =
    and_then (call_verdict default columns rows map bytes front back 0) (position_verdict columns rows x y)

unfoldable pub answered : Verdict → Packet → ℕ → ℕ → Answer
answered accept p x y = found_at p x y
answered (refuse n k) p x y = refused n k

-- columns and rows of blocks, map, packet, lengths of front and back, x, y
abbrev pub trace_of : ℕ → ℕ → List ℕ → List ℕ → ℕ → ℕ → ℕ → ℕ → Answer
trace_of columns rows map bytes front back x y =
    answered (trace_verdict columns rows map bytes front back x y) (packet columns rows map bytes) x y
