-- Turn k makes the stores of group k: the loop keeps `Allowing` over the groups.
use mathlib.Core.Path.{◌≡◌}
use Prim.Native.Nat.{◌+◌, ◌-◌}
use Rattle.palette.proofs.Allowing.{Allowing}
use Rattle.palette.proofs.Groups.{Walked}
use lib.ListN.{length}
use Rattle.listed.specs.Store.{each}
use Rattle.palette.specs.Mask.{group_stores}
use Rattle.palette.proofs.put_groups.Given as goal

abbrev pub invariant-loop-k : goal.invariant-loop-k
invariant-loop-k g l = Walked l.body l.k l.at × Allowing (group_stores l.body) l.initial.palette (l.allowed - 0) 32 l.palette l.k × (l.before ≡ 0 + length (each (group_stores l.body) l.k))
