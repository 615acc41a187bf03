use native.Mathlib.Omega.{arith}
use Rattle.strip.proofs.Chunking.{chunk_none, chunk_measured, head_asks, storing_asks, chunk_written}
use Rattle.strip.proofs.strip_chunk.Goals as goal
use Rattle.strip.proofs.strip_chunk.Goals.{then-storing, else-storing}

pub returns-then-n-eq0-clause-stored : goal.returns-then-n-eq0-clause-stored
returns-then-n-eq0-clause-stored c = chunk_none _ _ _ _ _ _ c.requires _ c.word_at-long.ensures.0 _ _ c.keep_opcodes-n.ensures.stored c.if-n-eq0.true

pub put_head-requires : goal.put_head-requires
put_head-requires c = let k = head_asks _ _ _ _ _ _ c.requires _ c.word_at-long.ensures.0 _ _ c.keep_opcodes-n.ensures.stored c.if-n-eq0.false c.if-storing.true in (omega (arith, c.keep_opcodes-n.ensures.result_bound, c.word_at-long.ensures.1), k.0, k.1)

pub keep_opcodes-requires : goal.keep_opcodes-requires
keep_opcodes-requires c = storing_asks _ _ _ _ _ _ c.requires _ c.word_at-long.ensures.0 _ _ c.keep_opcodes-n.ensures.stored c.if-n-eq0.false c.if-storing.true _ c.put_head.ensures

pub returns-clause-stored : goal.returns-clause-stored
returns-clause-stored c =
    elim c.if-storing.branch [
      | then-storing w ↦ rw w.room-is (chunk_written _ _ _ _ _ _ c.requires _ c.word_at-long.ensures.0 _ _ c.keep_opcodes-n.ensures.stored c.if-n-eq0.false w.if-storing.true _ w.put_head.ensures _ _ w.keep_opcodes.ensures.stored)
      | else-storing w ↦ rw w.room-is (chunk_measured _ _ _ _ _ _ c.requires _ c.word_at-long.ensures.0 _ _ c.keep_opcodes-n.ensures.stored c.if-n-eq0.false w.if-storing.false)
    ]
