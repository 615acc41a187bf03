use native.Mathlib.Omega.{arith}
use mathlib.Core.Path.{◌≡◌}
use Rattle.steps.proofs.Table.{NoneOf, at_least}
use Rattle.steps.specs.Steps.{steps}
use Rattle.steps.proofs.step_of.Goals as goal

pub returns-in_default : goal.returns-in_default
unfolding steps NoneOf
returns-in_default c = let l = at_least _ 255 _ c.in_default.in_default-own.rest in let e : c.args.b ≡ 255 = omega (arith, l, c.ranges) in rw e
