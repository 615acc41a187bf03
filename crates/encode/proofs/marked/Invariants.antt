use mathlib.Core.Path.{◌≡◌}
use Prim.Native.Nat.{◌+◌, ◌-◌, ◌*◌}
use Rattle.choice.specs.Choice.{cell_first, marks}
use Rattle.choice.specs.Asked.{pixels_of}
use Rattle.encode.proofs.marked.Given as goal

abbrev pub invariant-loop-c : goal.invariant-loop-c
invariant-loop-c l = l.v ≡ marks (λ d. pixels_of l.s (cell_first l.side (8 * l.r + d))) l.colour (8 - l.c) l.c
