-- Turn i makes the stores of bit i: the loop keeps `Masking`.
use Rattle.palette.proofs.Masks.{Masking}
use Rattle.palette.proofs.put_group.Given as goal

abbrev pub invariant-loop-i : goal.invariant-loop-i
invariant-loop-i g l = Masking l.body l.initial.palette l.allowed l.before l.entry l.mask l.at l.palette l.then l.bits l.next l.i
