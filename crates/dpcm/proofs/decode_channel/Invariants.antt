-- Turn k decodes byte number k of the channel: the loop keeps `Striding`.
use Rattle.std.proofs.Common.{◌-◌, length}
use Rattle.dpcm.proofs.Stride.{Striding}
use Rattle.dpcm.proofs.decode_channel.Given as goal

abbrev pub invariant-loop-i : goal.invariant-loop-i
invariant-loop-i l = Striding l.initial.last l.data l.start l.stride l.initial.room l.room l.last l.i

abbrev pub decreases-loop-i : goal.decreases-loop-i
decreases-loop-i l = length l.data - l.i
