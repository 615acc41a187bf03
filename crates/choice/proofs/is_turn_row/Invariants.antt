use mathlib.Core.Bool.{cond}
use Prim.Native.Nat.{◌*◌, ◌%◌}
use lib.Dec.{eqb}
use Rattle.choice.specs.Asked.{byte_at}
use Rattle.choice.proofs.First.{Alike}
use Rattle.choice.proofs.is_turn_row.Given as goal

abbrev pub invariant-loop-j : goal.invariant-loop-j
invariant-loop-j l = Alike (byte_at l.row) (λ i. cond (eqb (i % 2) 0) l.u l.v) (2 * l.j)
