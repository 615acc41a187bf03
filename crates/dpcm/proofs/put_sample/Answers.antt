use Rattle.dpcm.proofs.Decoding.{none_put}
use Rattle.dpcm.proofs.Stride.{low_next, high_next, put_both}
use Rattle.dpcm.proofs.put_sample.Goals as goal

pub put-requires : goal.put-requires
put-requires c = low_next _ _ _ _ _ _ c.requires c.if-room-gt0.true

pub put-requires-then-room-gt0 : goal.put-requires-then-room-gt0
put-requires-then-room-gt0 c = high_next _ _ _ _ _ c.args.room.now c.requires c.if-room-gt0.true _ c.put.ensures

pub returns-then-room-gt0 : goal.returns-then-room-gt0
returns-then-room-gt0 c = put_both _ _ c.args.room.now _ _ c.put.ensures c.put-then-room-gt0.ensures

pub returns-else-room-gt0 : goal.returns-else-room-gt0
returns-else-room-gt0 c = none_put _ _ _ _ _ c.if-room-gt0.false
