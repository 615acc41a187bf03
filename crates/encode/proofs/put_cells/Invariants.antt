use lib.ListN.{take}
use Rattle.room.proofs.Written.{Writing}
use Rattle.choice.specs.Choice.{cell_data}
use Rattle.choice.specs.Asked.{pixels_of}
use Rattle.encode.proofs.put_cells.Given as goal

abbrev pub invariant-loop-j : goal.invariant-loop-j
invariant-loop-j l = Writing l.initial.room (take l.j (cell_data l.side (pixels_of l.s))) l.j l.room
