use lib.ListN.{take}
use Rattle.room.proofs.Written.{Writing}
use Rattle.choice.specs.Asked.{pixels_of}
use Rattle.encode.specs.Asked.{pair_data}
use Rattle.encode.proofs.put_pair.Given as goal

abbrev pub invariant-loop-j : goal.invariant-loop-j
invariant-loop-j l = Writing l.initial.room (take l.j (pair_data (pixels_of l.s) l.side l.first l.second l.n)) l.j l.room
