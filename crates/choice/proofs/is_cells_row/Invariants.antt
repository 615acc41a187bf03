use Prim.Native.Nat.{◌*◌, ◌/◌, ◌^◌}
use Rattle.choice.specs.Asked.{byte_at}
use Rattle.choice.proofs.First.{Alike}
use Rattle.choice.proofs.is_cells_row.Given as goal

abbrev pub invariant-loop-j : goal.invariant-loop-j
invariant-loop-j l = Alike (byte_at l.row) (λ i. byte_at l.top (i / 2 ^ l.e * l.side)) l.j
