-- Turn i makes store i of the gradient: the loop keeps `Making`.
use Prim.Native.Nat.{◌*◌}
use Rattle.listed.specs.Store.{byte}
use Rattle.palette.specs.Gradient.{component}
use Rattle.listed.proofs.Making.{Making}
use Rattle.palette.proofs.put_gradient.Given as goal

abbrev pub invariant-loop-i : goal.invariant-loop-i
invariant-loop-i g l = Making (byte (3 * l.g.base) (component l.g.rows l.g.columns l.g.second)) l.initial.palette l.m l.palette l.i
