-- Turn i makes store i of the list: the loop keeps `Making`.
use lib.ListN.{length}
use Rattle.listed.specs.Store.{byte, from}
use Rattle.listed.proofs.Making.{Making}
use Rattle.room.proofs.put_all.Given as goal

abbrev pub invariant-loop-i : goal.invariant-loop-i
invariant-loop-i l = Making (byte 0 (from l.bytes 0)) l.initial.room (length l.bytes) l.room l.i
