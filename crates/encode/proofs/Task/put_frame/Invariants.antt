use Prim.Native.Nat.{◌*◌, min}
use lib.ListN.{take}
use Rattle.room.proofs.Written.{Writing}
use Rattle.encode.specs.Encode.{data_to, map_of}
use Rattle.encode.specs.Asked.{task_of, blocks}
use Rattle.encode.proofs.Task.put_frame.Given as goal

abbrev pub invariant-loop-i : goal.invariant-loop-i
invariant-loop-i l = Writing l.initial.map (take l.i (map_of (task_of l.self) (blocks l.self))) l.i l.map × Writing l.initial.room (data_to (task_of l.self) (min (blocks l.self) (2 * l.i))) l.at l.room
