-- When a frame's data is accepted, as a statement (`proofs/Exactly`): codes that have their bytes pass all blocks and no more, and then the end mark
-- stands alone.
-- Assumes nothing.
use Rattle.std.specs.Prelude.{◌≡◌, List, ℕ, ◌+◌, ◌≤◌, ◌<◌, length}
use Rattle.words.specs.Word.{word_at}
use Rattle.video1.specs.Code.{code_at, long_of, passed_by}

-- from byte at and block k on, of so many blocks in all
pub data UsesUp (s : List ℕ) (total : ℕ) : ℕ → ℕ → Type 0 where
  marked : {at : ℕ} → at + 2 ≡ length s → word_at s at ≡ 0 → UsesUp s total at total
  passed : {at k : ℕ} → k < total → at + long_of (code_at s at) ≤ length s → k + passed_by (code_at s at) ≤ total
      → UsesUp s total (at + long_of (code_at s at)) (k + passed_by (code_at s at)) → UsesUp s total at k
