use Rattle.std.proofs.Common.{rules, arith}
use Rattle.dpcm.proofs.Packet.{none_fits, packet_decoded}
use Rattle.dpcm.proofs.decode_packet.Goals as goal

pub returns-then-is_empty-clause-room_after : goal.returns-then-is_empty-clause-room_after
returns-then-is_empty-clause-room_after c = λ f. none_fits _ _ c.args.last _ c.args.room.now _ (search rules) c.decode.auto.room f

pub returns-clause-room_after : goal.returns-clause-room_after
returns-clause-room_after c = λ f. (packet_decoded _ _ _ _ _ c.packet_first-first.ensures _ c.start_length-n.ensures _ c.part_from-rest.ensures _ _ f c.put_leading.auto.room c.put_leading.ensures _ _ (c.decode-2.ensures.value, c.decode-2.ensures.room_after)).1
