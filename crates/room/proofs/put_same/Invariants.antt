-- Turn i makes store i of the list: the loop keeps `Making`.
use lib.ListN.{replicate}
use Rattle.listed.specs.Store.{byte, from}
use Rattle.listed.proofs.Making.{Making}
use Rattle.room.proofs.put_same.Given as goal

abbrev pub invariant-loop-i : goal.invariant-loop-i
invariant-loop-i l = Making (byte 0 (from (replicate l.n l.value) 0)) l.initial.room l.n l.room l.i
