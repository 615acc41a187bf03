use Prim.Native.Nat.{◌*◌}
use Rattle.choice.specs.Choice.{by_cells}
use Rattle.choice.specs.Asked.{pixels_of}
use Rattle.choice.proofs.First.{Alike}
use Rattle.choice.proofs.Square.is_celled.Given as goal

abbrev pub invariant-loop-r : goal.invariant-loop-r
invariant-loop-r l = Alike (pixels_of l.self) (by_cells l.side (pixels_of l.self)) (8 * l.r)
