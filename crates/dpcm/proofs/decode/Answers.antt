use Rattle.std.proofs.Common.{arith}
use Rattle.dpcm.proofs.Passes.{mono_decoded, even_decoded, odd_decoded}
use Rattle.dpcm.proofs.Stride.{channels_some, channels_two, first_channel, second_channel}
use Rattle.dpcm.proofs.decode.Goals as goal

pub decode_channel-left-requires : goal.decode_channel-left-requires
decode_channel-left-requires c = record { start_bound = omega (arith, channels_two c.args.stereo c.if-not-stereo.false); next_channel = first_channel _ _ _ c.requires c.args.stereo }

pub decode_channel-right-requires : goal.decode_channel-right-requires
decode_channel-right-requires c = record { start_bound = omega (arith, channels_two c.args.stereo c.if-not-stereo.false); next_channel = second_channel _ _ c.args.room.now c.requires c.args.stereo c.if-not-stereo.false _ c.decode_channel-left.ensures.room_after }

pub returns-then-data-eq0 : goal.returns-then-data-eq0
returns-then-data-eq0 c = record { value = (even_decoded _ _ _ c.requires _ c.if-not-stereo.false _ _ _ _ c.decode_channel-left.ensures.value c.decode_channel-left.ensures.room_after c.decode_channel-right.ensures.value c.decode_channel-right.ensures.room_after c.if-data-eq0.true).0; room_after = (even_decoded _ _ _ c.requires _ c.if-not-stereo.false _ _ _ _ c.decode_channel-left.ensures.value c.decode_channel-left.ensures.room_after c.decode_channel-right.ensures.value c.decode_channel-right.ensures.room_after c.if-data-eq0.true).1 }

pub returns-else-data-eq0 : goal.returns-else-data-eq0
returns-else-data-eq0 c = record { value = (odd_decoded _ _ _ c.requires _ c.if-not-stereo.false _ _ _ _ c.decode_channel-left.ensures.value c.decode_channel-left.ensures.room_after c.decode_channel-right.ensures.value c.decode_channel-right.ensures.room_after c.if-data-eq0.false).0; room_after = (odd_decoded _ _ _ c.requires _ c.if-not-stereo.false _ _ _ _ c.decode_channel-left.ensures.value c.decode_channel-left.ensures.room_after c.decode_channel-right.ensures.value c.decode_channel-right.ensures.room_after c.if-data-eq0.false).1 }

pub decode_channel-only-requires : goal.decode_channel-only-requires
decode_channel-only-requires c = record { start_bound = channels_some c.args.stereo; next_channel = first_channel _ _ _ c.requires c.args.stereo }

pub returns-then-not-stereo : goal.returns-then-not-stereo
returns-then-not-stereo c = record { value = (mono_decoded _ _ _ c.requires _ c.if-not-stereo.true _ _ c.decode_channel-only.ensures.value c.decode_channel-only.ensures.room_after).0; room_after = (mono_decoded _ _ _ c.requires _ c.if-not-stereo.true _ _ c.decode_channel-only.ensures.value c.decode_channel-only.ensures.room_after).1 }
