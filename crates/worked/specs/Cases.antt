-- The marked cases of document 01, "Checked by hand", as one list: what the definitions give, and what the document says, with the rows that request W3
-- changes worked out anew from its bytes (docs/DECISIONS.md has the working).
-- Assumes nothing.
use Rattle.std.specs.Prelude.{List, [], ◌∷◌, ◌++◌, ℕ, zero, suc, ◌+◌, ◌-◌, ◌*◌, take, get_or, replicate}
use Rattle.motion.specs.declared.Vector.{Vector}
use Rattle.motion.specs.Motion.{ahead_vector, near_vector}
use Rattle.block.specs.Block.{code_at}
use Rattle.paint.specs.Value.{byte_value}
use Rattle.packet.specs.Verdict.{default}
use Rattle.stores.specs.Stores.{Memory, memory}
use Rattle.stores.specs.Calls.{Answer, whole, unfinished, refusal}
use Rattle.draw.specs.Call.{Request, within, request, Reason, leaves, Report, report}
use Rattle.palette.specs.Update.{palette_after}
use Rattle.palette.specs.Gradient.{create_gradient}

pub record Case : Type 0 where
  pub given : List ℕ
  pub said : List ℕ

abbrev pub case : List ℕ → List ℕ → Case
case g s = record { given = g; said = s }

-- n values, from 0 on
unfoldable pub values_from : (ℕ → ℕ) → ℕ → ℕ → List ℕ
values_from f zero i = []
values_from f (suc n) i = f i ∷ values_from f n (suc i)

abbrev pub values : (ℕ → ℕ) → ℕ → List ℕ
values f n = values_from f n 0

-- n pixels from pixel i on of a block of this code with these data bytes, alone in a picture 8 by 8
unfoldable pub pixels : ℕ → List ℕ → ℕ → ℕ → List ℕ
pixels code s i n = values_from (λ j. byte_value code s 8 0 0 [] j []) n i

-- a vector's two offsets, with a number added to each so that none is negative
unfoldable pub offset : ℕ → Vector → List ℕ → List ℕ
offset bias v rest = (v.right + bias - v.left) ∷ ((v.down + bias - v.up) ∷ rest)

-- the palette after opcode 0B with the gradient 12, 5, 4 for red and blue and none for red and green, on one whose bytes are all 9
unfoldable pub palette : List ℕ
palette = palette_after (create_gradient (12 ∷ 5 ∷ 4 ∷ 0 ∷ 0 ∷ 0 ∷ [])) 312000 (replicate 768 9)

-- component c of entry e
abbrev pub entry : ℕ → ℕ → ℕ
entry e c = get_or palette (3 * e + c) 0

-- the case 16x8, map E2, data 00 07, back all 5
unfoldable pub example : ℕ → Request
example n = request 2 1 (0xe2 ∷ []) (0x00 ∷ 0x07 ∷ []) (replicate 128 0) (within n default)

-- what a call of it allowed n stores leaves and says
abbrev pub drawn : ℕ → Memory
drawn n = (leaves (example n) (memory (replicate 128 5) 0)).drawn

abbrev pub said : ℕ → Report
said n = report (memory (replicate 128 5) 0) (example n)

-- "whole" as 1, "unfinished" as 2, a refusal as 4
unfoldable pub answer : Answer Reason → ℕ
answer whole = 1
answer unfinished = 2
answer (refusal r) = 4

-- n rows of eight 5 and eight 7
unfoldable pub two_halves : ℕ → List ℕ
two_halves zero = []
two_halves (suc n) = replicate 8 5 ++ (replicate 8 7 ++ two_halves n)

-- In the document's order: code 7 fine and coarse; code 8 in left and right halves, top and bottom halves, quarters; the vectors of codes 2 and 4;
-- the gradient 12, 5, 4; the map byte E1; the case 16x8, whole and after 75 stores
unfoldable pub cases : List Case
cases =
    case (pixels 7 (0x11 ∷ 0x22 ∷ 0xff ∷ 0x81 ∷ 0x81 ∷ 0x81 ∷ 0x81 ∷ 0x81 ∷ 0x81 ∷ 0xff ∷ []) 0 16) (0x22 ∷ 0x22 ∷ 0x22 ∷ 0x22 ∷ 0x22 ∷ 0x22 ∷ 0x22 ∷ 0x22 ∷ 0x22 ∷ 0x11 ∷ 0x11 ∷ 0x11 ∷ 0x11 ∷ 0x11 ∷ 0x11 ∷ 0x22 ∷ [])
    ∷ case (pixels 7 (0x22 ∷ 0x11 ∷ 0xff ∷ 0x81 ∷ []) 0 32) (0x11 ∷ 0x11 ∷ 0x11 ∷ 0x11 ∷ 0x11 ∷ 0x11 ∷ 0x11 ∷ 0x11 ∷ 0x11 ∷ 0x11 ∷ 0x11 ∷ 0x11 ∷ 0x11 ∷ 0x11 ∷ 0x11 ∷ 0x11 ∷ 0x11 ∷ 0x11 ∷ 0x11 ∷ 0x11 ∷ 0x11 ∷ 0x11 ∷ 0x11 ∷ 0x11 ∷ 0x11 ∷ 0x11 ∷ 0x11 ∷ 0x11 ∷ 0x11 ∷ 0x11 ∷ 0x11 ∷ 0x11 ∷ [])
    ∷ case (pixels 7 (0x22 ∷ 0x11 ∷ 0xff ∷ 0x81 ∷ []) 32 32) (0x11 ∷ 0x11 ∷ 0x22 ∷ 0x22 ∷ 0x22 ∷ 0x22 ∷ 0x22 ∷ 0x22 ∷ 0x11 ∷ 0x11 ∷ 0x22 ∷ 0x22 ∷ 0x22 ∷ 0x22 ∷ 0x22 ∷ 0x22 ∷ 0x22 ∷ 0x22 ∷ 0x22 ∷ 0x22 ∷ 0x22 ∷ 0x22 ∷ 0x11 ∷ 0x11 ∷ 0x22 ∷ 0x22 ∷ 0x22 ∷ 0x22 ∷ 0x22 ∷ 0x22 ∷ 0x11 ∷ 0x11 ∷ [])
    ∷ case (pixels 8 (0x22 ∷ 0x00 ∷ 0x01 ∷ 0x37 ∷ 0xf7 ∷ 0x31 ∷ 0x11 ∷ 0x66 ∷ 0x8c ∷ 0xe6 ∷ 0x73 ∷ 0x31 ∷ []) 0 8) (0x00 ∷ 0x22 ∷ 0x22 ∷ 0x22 ∷ 0x11 ∷ 0x11 ∷ 0x66 ∷ 0x66 ∷ [])
    ∷ case (pixels 8 (0x22 ∷ 0x00 ∷ 0xcc ∷ 0x66 ∷ 0x33 ∷ 0x19 ∷ 0x66 ∷ 0x11 ∷ 0x18 ∷ 0x24 ∷ 0x42 ∷ 0x81 ∷ []) 56 8) (0x11 ∷ 0x66 ∷ 0x66 ∷ 0x66 ∷ 0x66 ∷ 0x66 ∷ 0x66 ∷ 0x11 ∷ [])
    ∷ case (pixels 8 (0x00 ∷ 0x22 ∷ 0xf9 ∷ 0x9f ∷ 0x11 ∷ 0x33 ∷ 0xcc ∷ 0x33 ∷ 0x44 ∷ 0x55 ∷ 0xaa ∷ 0x55 ∷ 0x66 ∷ 0x77 ∷ 0x01 ∷ 0xef ∷ []) 32 8) (0x11 ∷ 0x11 ∷ 0x33 ∷ 0x33 ∷ 0x77 ∷ 0x66 ∷ 0x66 ∷ 0x66 ∷ [])
    ∷ case (offset 14 (ahead_vector 0) (offset 14 (ahead_vector 55) (offset 14 (ahead_vector 56) (offset 14 (ahead_vector 255) [])))) (22 ∷ 14 ∷ 28 ∷ 21 ∷ 0 ∷ 22 ∷ 25 ∷ 28 ∷ [])
    ∷ case (offset 8 (near_vector 0x00) (offset 8 (near_vector 0x88) (offset 8 (near_vector 0xff) []))) (0 ∷ 0 ∷ 8 ∷ 8 ∷ 15 ∷ 15 ∷ [])
    ∷ case (values (λ i. entry (12 + 4 * i) 0) 5) (0 ∷ 15 ∷ 31 ∷ 47 ∷ 63 ∷ [])
    ∷ case (values (λ j. entry (12 + j) 2) 4) (0 ∷ 13 ∷ 26 ∷ 39 ∷ [])
    ∷ case (entry 11 2 ∷ entry 12 1 ∷ entry 31 1 ∷ entry 32 0 ∷ []) (9 ∷ 0 ∷ 0 ∷ 9 ∷ [])
    ∷ case (code_at (0xe1 ∷ []) 0 ∷ code_at (0xe1 ∷ []) 1 ∷ []) (1 ∷ 14 ∷ [])
    ∷ case (drawn 312000).picture (two_halves 8)
    ∷ case (answer (said 312000).answer ∷ (said 312000).count ∷ (drawn 312000).place ∷ []) (1 ∷ 130 ∷ 2 ∷ [])
    ∷ case (answer (said 75).answer ∷ (said 75).count ∷ (drawn 75).place ∷ []) (2 ∷ 75 ∷ 1 ∷ [])
    ∷ case (take 32 (drawn 75).picture) (5 ∷ 5 ∷ 5 ∷ 5 ∷ 5 ∷ 5 ∷ 5 ∷ 5 ∷ 7 ∷ 7 ∷ 7 ∷ 7 ∷ 7 ∷ 7 ∷ 7 ∷ 7 ∷ 5 ∷ 5 ∷ 5 ∷ 5 ∷ 5 ∷ 5 ∷ 5 ∷ 5 ∷ 7 ∷ 7 ∷ 5 ∷ 5 ∷ 5 ∷ 5 ∷ 5 ∷ 5 ∷ [])
    ∷ []
