use Prim.Native.Nat.{◌*◌}
use Rattle.choice.specs.Asked.{pixels_of}
use Rattle.choice.proofs.First.{Alike}
use Rattle.choice.proofs.Rows.{of_two}
use Rattle.choice.proofs.Square.has_two_colours.Given as goal

abbrev pub invariant-loop-r : goal.invariant-loop-r
invariant-loop-r l = Alike (pixels_of l.self) (of_two (pixels_of l.self)) (8 * l.r)
