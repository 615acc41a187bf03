-- Turn i makes store i of the part: the loop keeps `Making`.
use Rattle.listed.specs.Store.{byte, from}
use Rattle.listed.proofs.Making.{Making}
use Rattle.palette.proofs.put_bytes.Given as goal

abbrev pub invariant-loop-i : goal.invariant-loop-i
invariant-loop-i g l = Making (byte l.first (from l.body l.at)) l.initial.palette l.m l.palette l.i
