use mathlib.Core.Path.{◌≡◌}
use Rattle.stores.specs.Stores.{first_pixels}
use Rattle.paint.proofs.first_part.Given as goal

abbrev pub invariant-loop-i : goal.invariant-loop-i
invariant-loop-i g l = g.T.Pixel.numbers l.new ≡ first_pixels g.P.Drawing.plan 0 (g.T.Pixel.numbers l.initial.new) l.i
