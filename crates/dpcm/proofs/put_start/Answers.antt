-- Byte after byte of the start words: `start_next_low` to `start_written_stereo`.
use Rattle.dpcm.proofs.Packet.{start_next_low, start_next_high, start_other_low, start_other_high, start_written_mono, start_written_stereo}
use Rattle.dpcm.proofs.put_start.Goals as goal

pub put_start_byte-requires : goal.put_start_byte-requires
put_start_byte-requires c = start_next_low c.args.stereo c.args.first c.args.room.now c.requires

pub put_start_byte-requires-2 : goal.put_start_byte-requires-2
put_start_byte-requires-2 c = start_next_high c.args.stereo c.args.first c.args.room.now c.requires _ c.put_start_byte.ensures

pub put_start_byte-requires-then-stereo : goal.put_start_byte-requires-then-stereo
put_start_byte-requires-then-stereo c = start_other_low c.args.stereo c.args.first c.args.room.now c.requires _ c.put_start_byte.ensures _ c.put_start_byte-2.ensures c.if-stereo.true

pub put_start_byte-requires-then-stereo-2 : goal.put_start_byte-requires-then-stereo-2
put_start_byte-requires-then-stereo-2 c = start_other_high c.args.stereo c.args.first c.args.room.now c.requires _ c.put_start_byte.ensures _ c.put_start_byte-2.ensures c.if-stereo.true _ c.put_start_byte-then-stereo.ensures

pub returns-then-stereo : goal.returns-then-stereo
returns-then-stereo c = start_written_stereo c.args.stereo c.args.first c.args.room.now c.requires _ c.put_start_byte.ensures _ c.put_start_byte-2.ensures c.if-stereo.true _ c.put_start_byte-then-stereo.ensures _ c.put_start_byte-then-stereo-2.ensures

pub returns-else-stereo : goal.returns-else-stereo
returns-else-stereo c = start_written_mono c.args.stereo c.args.first c.args.room.now c.requires _ c.put_start_byte.ensures _ c.put_start_byte-2.ensures c.if-stereo.false
