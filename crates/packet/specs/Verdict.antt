-- The verdict on a packet, for both widths, in the documents' order: 6, 10, 20, then block by block 12, 13, 14, then 15.
-- Document 02, W6: one byte may be left over; in the strict form none. Both are one definition, over the bytes that may be (`spare`).
-- Assumes nothing.
use Rattle.std.specs.Prelude.{Bool, true, false, cond, List, ℕ, zero, suc, ◌+◌, ◌/◌, eqb, leb, ltb, length, Result, Ok, Err}
use Rattle.refusal.specs.declared.Refusal.{Refusal}
use Rattle.refusal.specs.Number.{Verdict, accept, refuse, refusal}
use Rattle.block.specs.Block.{data_length, offset_length, is_refused, copy_inside}
use Rattle.packet.specs.Packet.{Packet, offsets_at, packet_in, blocks, width, height, left, top, start, data_of, offsets_of, kind}

-- document 01's number and block of each answer of a test
abbrev pub told : Result Unit Refusal → Verdict
told (Ok u) = accept
told (Err r) = refusal r

-- the next verdict where the first accepts
unfoldable pub and_then : Verdict → Verdict → Verdict
and_then accept v = v
and_then (refuse number block) v = refuse number block

-- 12 to 14, of block k; 13 is met in either part
unfoldable pub block_verdict : Packet → ℕ → Verdict
block_verdict p k =
    cond (is_refused (kind p k)) (refuse 12 k)
    (cond (ltb (length (data_of p k)) (data_length p.deep (kind p k))) (refuse 13 k)
    (cond (ltb (length (offsets_of p k)) (offset_length (kind p k))) (refuse 13 k)
    (cond (copy_inside (kind p k) (width p) (height p) (left p k) (top p k)) accept (refuse 14 k))))

-- bytes of a packet that may be left over
abbrev pub default : ℕ
default = 1

abbrev pub strict : ℕ
strict = 0

-- the bytes that may be left over are those of the last part: with true colour the first is used up
abbrev pub spare_first : Bool → ℕ → ℕ
spare_first false spare = spare
spare_first true spare = 0

-- 15: n blocks leave over more than may be
unfoldable pub end_verdict : ℕ → Packet → ℕ → Verdict
end_verdict spare p n =
    cond (leb (length p.bytes) ((start p n).bytes + spare_first p.deep spare))
    (cond (leb (length p.offsets) ((start p n).offsets + spare)) accept (refuse 15 0))
    (refuse 15 0)

-- n blocks from block k on, the lowest first, then what is left over
unfoldable pub verdict_from : ℕ → Packet → ℕ → ℕ → Verdict
verdict_from spare p zero k = end_verdict spare p k
verdict_from spare p (suc n) k = and_then (block_verdict p k) (verdict_from spare p n (suc k))

-- 12 to 15
unfoldable pub blocks_verdict : ℕ → Packet → Verdict
blocks_verdict spare p = verdict_from spare p (blocks p) 0

-- 10: a nibble a block
unfoldable pub map_fits : Packet → Bool
map_fits p = eqb (length p.map) ((blocks p + 1) / 2)

-- 6: from 1 block to the most
unfoldable pub legal : ℕ → ℕ → Bool
legal most n = cond (ltb n 1) false (leb n most)

unfoldable pub legal_size : ℕ → ℕ → Bool
legal_size columns rows = cond (legal 80 columns) (legal 60 rows) false

-- 20, of a packet with true colour: its first word is there, and the second part begins behind it and within the packet or at its end
abbrev pub parts_fit : Bool → List ℕ → Bool
parts_fit false bytes = true
parts_fit true bytes = cond (ltb (length bytes) 2) false (cond (ltb (offsets_at bytes) 2) false (leb (offsets_at bytes) (length bytes)))

-- 20, then 12 to 15
abbrev pub parts_verdict : Bool → ℕ → ℕ → ℕ → List ℕ → List ℕ → Verdict
parts_verdict deep spare columns rows map bytes = cond (parts_fit deep bytes) (blocks_verdict spare (packet_in deep columns rows map bytes)) (refuse 20 0)

-- the check of a packet called alone: bytes that may be left over, columns and rows of blocks, map, the whole packet
unfoldable pub verdict_in : Bool → ℕ → ℕ → ℕ → List ℕ → List ℕ → Verdict
verdict_in deep spare columns rows map bytes =
    cond (legal_size columns rows) (cond (map_fits (packet_in deep columns rows map bytes)) (parts_verdict deep spare columns rows map bytes) (refuse 10 0)) (refuse 6 0)

-- of an 8-bit packet
abbrev pub verdict : ℕ → ℕ → ℕ → List ℕ → List ℕ → Verdict
verdict spare columns rows map bytes = verdict_in false spare columns rows map bytes
