-- A frame (source document 001; document 02, W12): 4x4 blocks, left to right, from the bottom row of the picture up. Its size is counted in blocks of
-- 8x8, four of these each. Refusals: 6, 8; then 24 and 25, the first met in the data's order; then 26. On each the picture stays as lent.
-- Assumes nothing.
use Rattle.std.specs.Prelude.{cond, List, ℕ, zero, suc, ◌+◌, ◌-◌, ◌*◌, ◌/◌, ◌%◌, eqb, ltb, length, get_or}
use Rattle.words.specs.Word.{word_at}
use Rattle.refusal.specs.Number.{Verdict, accept, refuse}
use Rattle.packet.specs.Packet.{pixels}
use Rattle.packet.specs.Verdict.{legal_size}
use Rattle.stores.specs.Stores.{Plan, final}
use Rattle.video1.specs.Code.{code_at, long_of, passed_by, stores_of, source_of}

-- the 4x4 blocks of a picture of so many blocks of 8x8
abbrev pub block_count : ℕ → ℕ → ℕ
block_count columns rows = 2 * columns * (2 * rows)

-- ---- the verdict on the data

-- 26: after all blocks the end mark 00 00, and nothing behind it
unfoldable pub end_verdict : List ℕ → ℕ → Verdict
end_verdict s at = cond (eqb (length s - at) 2) (cond (eqb (word_at s at) 0) accept (refuse 26 0)) (refuse 26 0)

-- from byte at and block k on, at most so many codes
unfoldable pub walk_from : ℕ → List ℕ → ℕ → ℕ → ℕ → Verdict
walk_from zero s total at k = refuse 24 0
walk_from (suc n) s total at k =
    cond (ltb k total)
    (cond (ltb (length s - at) (long_of (code_at s at))) (refuse 24 0)
    (cond (ltb (total - k) (passed_by (code_at s at))) (refuse 25 0)
    (walk_from n s total (at + long_of (code_at s at)) (k + passed_by (code_at s at)))))
    (end_verdict s at)

-- no frame has more codes than bytes
unfoldable pub walk_verdict : List ℕ → ℕ → Verdict
walk_verdict s total = walk_from (suc (length s)) s total 0 0

-- ---- which code gives a block, and which byte a pixel

-- of at most n codes from byte at and block j on: where the one stands that passes block k
unfoldable pub position_from : ℕ → List ℕ → ℕ → ℕ → ℕ → ℕ
position_from zero s at j k = at
position_from (suc n) s at j k =
    cond (ltb k (j + passed_by (code_at s at))) at (position_from n s (at + long_of (code_at s at)) (j + passed_by (code_at s at)) k)

unfoldable pub position_of : List ℕ → ℕ → ℕ
position_of s k = position_from (suc (length s)) s 0 0 k

-- ---- the picture

-- the index of pixel i of block k
unfoldable pub spot : ℕ → ℕ → ℕ → ℕ → ℕ
spot columns rows k i = (8 * rows - 1 - (4 * (k / (2 * columns)) + i / 4)) * (8 * columns) + (4 * (k % (2 * columns)) + i % 4)

-- block k, given by the code at byte at, as a plan of its own
abbrev pub block_plan : ℕ → ℕ → List ℕ → ℕ → ℕ → Plan
block_plan columns rows s at k =
    record {
      blocks = 1;
      size = λ _. stores_of (code_at s at);
      target = λ _ i. spot columns rows k i;
      value = λ _ i b. get_or s (at + source_of (code_at s at) s at i) 0;
    }

-- all blocks, each given by the code that passes it
abbrev pub frame_plan : ℕ → ℕ → List ℕ → Plan
frame_plan columns rows s =
    record {
      blocks = block_count columns rows;
      size = λ k. (block_plan columns rows s (position_of s k) k).size 0;
      target = λ k i. (block_plan columns rows s (position_of s k) k).target 0 i;
      value = λ k i b. (block_plan columns rows s (position_of s k) k).value 0 i b;
    }

-- ---- the call

-- 6, 8, then the data
unfoldable pub frame_verdict : ℕ → ℕ → List ℕ → ℕ → Verdict
frame_verdict columns rows s long =
    cond (legal_size columns rows) (cond (ltb long (pixels columns rows)) (refuse 8 0) (walk_verdict s (block_count columns rows))) (refuse 6 0)

unfoldable pub drawn : Verdict → List ℕ → List ℕ → List ℕ
drawn accept new old = new
drawn (refuse n k) new old = old

-- the picture b after the call
unfoldable pub frame_after : ℕ → ℕ → List ℕ → List ℕ → List ℕ
frame_after columns rows s b = drawn (frame_verdict columns rows s (length b)) (final (frame_plan columns rows s) b) b
