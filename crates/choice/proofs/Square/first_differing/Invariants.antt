use mathlib.Core.Path.{◌≡◌}
use Prim.Native.Nat.{◌+◌, ◌*◌}
use Rattle.choice.specs.Asked.{pixels_of}
use Rattle.choice.proofs.First.{Alike}
use Rattle.choice.proofs.Square.first_differing.Given as goal

abbrev pub invariant-rows : goal.invariant-rows
invariant-rows l = (l.found ≡ 64) × Alike (pixels_of l.self) (pixels_of l.there) (8 * l.r)

abbrev pub invariant-loop-j : goal.invariant-loop-j
invariant-loop-j l = (l.found ≡ 64) × Alike (pixels_of l.self) (pixels_of l.there) (8 * l.r + l.j)
