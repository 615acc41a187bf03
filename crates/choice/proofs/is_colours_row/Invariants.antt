use mathlib.Core.Bool.{cond}
use lib.Dec.{eqb}
use Rattle.choice.specs.Asked.{byte_at}
use Rattle.choice.proofs.First.{Alike}
use Rattle.choice.proofs.is_colours_row.Given as goal

abbrev pub invariant-loop-j : goal.invariant-loop-j
invariant-loop-j l = Alike (byte_at l.row) (λ i. cond (eqb (byte_at l.row i) l.z) l.z l.o) l.j
