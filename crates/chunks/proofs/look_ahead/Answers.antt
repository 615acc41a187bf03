use Rattle.chunks.proofs.Testing.{ahead_asks}
use Rattle.chunks.proofs.look_ahead.Goals as goal

pub test_chunk-requires : goal.test_chunk-requires
test_chunk-requires c = ahead_asks _ _ _ (rw c.in-Ok-Chunk.field-0-is at c.in-Ok-Chunk.ensures)
