use Rattle.std.proofs.Common.{arith}
use Rattle.dpcm.proofs.Stride.{striding_start, striding_length, striding_next, striding_more, channel_done, stride_some, stride_most}
use Rattle.dpcm.proofs.decode_channel.Goals as goal

pub loop-i-init : goal.loop-i-init
loop-i-init c = striding_start _ _ _ _ _ (omega (arith, c.channels_of-stride.ensures, c.requires.start_bound))

pub bounds-data-i : goal.bounds-data-i
bounds-data-i c = omega arith

pub put_sample-requires : goal.put_sample-requires
put_sample-requires c = striding_next _ _ _ _ _ c.requires.next_channel c.requires.start_bound _ _ c.channel_first-last.ensures c.channels_of-stride.ensures _ _ _ c.loop-i.invariant c.loop-i-test.true _ c.sample_after-last.ensures

pub overflow_add-i : goal.overflow_add-i
overflow_add-i c = omega (arith, stride_most c.args.stereo _ c.channels_of-stride.ensures)

pub loop-i-smaller : goal.loop-i-smaller
loop-i-smaller c = omega (arith, stride_some c.args.stereo _ c.channels_of-stride.ensures)

pub loop-i-preserved : goal.loop-i-preserved
loop-i-preserved c = striding_more _ _ _ _ _ _ _ _ c.loop-i.invariant c.loop-i-test.true _ _ c.sample_after-last.ensures c.put_sample.ensures

pub shape_of-room : goal.shape_of-room
shape_of-room c = striding_length _ _ _ _ _ _ _ _ c.loop-i.invariant

pub returns : goal.returns
returns c = record { value = (channel_done c.args.stereo c.args.first _ _ c.requires.start_bound _ _ c.channel_first-last.ensures c.channels_of-stride.ensures _ _ _ _ c.loop-i.invariant c.loop-i-test.false).0; room_after = (channel_done c.args.stereo c.args.first _ _ c.requires.start_bound _ _ c.channel_first-last.ensures c.channels_of-stride.ensures _ _ _ _ c.loop-i.invariant c.loop-i-test.false).1 }
