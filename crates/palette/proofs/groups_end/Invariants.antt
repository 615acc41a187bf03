-- The loop keeps the position of group k.
use Rattle.palette.proofs.Groups.{Walked}
use Rattle.palette.proofs.groups_end.Given as goal

abbrev pub invariant-loop-k : goal.invariant-loop-k
invariant-loop-k l = Walked l.body l._k l.at
