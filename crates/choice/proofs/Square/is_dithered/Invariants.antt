use mathlib.Core.Path.{◌≡◌}
use Prim.Native.Nat.{◌+◌, ◌*◌, ◌%◌}
use Rattle.choice.specs.Choice.{by_dither}
use Rattle.choice.specs.Asked.{pixels_of}
use Rattle.choice.proofs.First.{Alike}
use Rattle.choice.proofs.Square.is_dithered.Given as goal

abbrev pub invariant-loop-r : goal.invariant-loop-r
invariant-loop-r l = (l.u ≡ pixels_of l.self (l.r % 2)) × (l.v ≡ pixels_of l.self ((l.r + 1) % 2)) × Alike (pixels_of l.self) (by_dither (pixels_of l.self)) (8 * l.r)
