use Prim.Native.Nat.{◌*◌}
use Rattle.video1.proofs.Blocks.{Rising}
use Rattle.video1.proofs.paint_code.Given as goal

abbrev pub invariant-loop-row : goal.invariant-loop-row
invariant-loop-row g l = Rising l.columns l.rows l.s l.at l.k l.initial.pic l.pic l.to (4 * l.row)
