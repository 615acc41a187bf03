use Rattle.choice.specs.Asked.{pixels_of}
use Rattle.choice.proofs.First.{Alike}
use Rattle.choice.proofs.Square.other_colour.Given as goal

abbrev pub invariant-loop-i : goal.invariant-loop-i
invariant-loop-i l = Alike (pixels_of l.self) (λ i. pixels_of l.self 0) l.i
