use Rattle.palette.proofs.Groups.{walked_start, walked_small, walked_more, walked_end}
use native.Mathlib.Omega.{arith}
use Rattle.palette.proofs.groups_end.Goals as goal

pub loop-k-init : goal.loop-k-init
loop-k-init c = walked_start _

pub group_end-at-requires : goal.group_end-at-requires
group_end-at-requires c = omega (arith, walked_small _ _ _ c.loop-k.invariant)

pub loop-k-preserved : goal.loop-k-preserved
loop-k-preserved c = walked_more _ _ _ c.loop-k.invariant c.loop-k-test.true _ c.group_end-at.ensures

pub returns : goal.returns
returns c = walked_end _ _ _ c.loop-k.invariant c.loop-k-test.false
