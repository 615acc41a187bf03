-- The bytes behind a mask are its group's components: the loop keeps `Judging` over the groups.
use Rattle.palette.proofs.Judging.{Judging}
use Rattle.palette.proofs.Groups.{Walked}
use Rattle.palette.specs.Mask.{group_stores}
use Rattle.palette.proofs.are_group_components.Given as goal

abbrev pub invariant-loop-k : goal.invariant-loop-k
invariant-loop-k l = Walked l.body l._k l.at × Judging (group_stores l.body) 32 l._k
