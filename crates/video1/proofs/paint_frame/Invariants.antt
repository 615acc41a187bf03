use Prim.Native.Nat.{◌-◌}
use lib.ListN.{length}
use Rattle.video1.specs.Code.{code_at}
use Rattle.video1.specs.Frame.{block_plan}
use Rattle.video1.proofs.Blocks.{few_stores}
use Rattle.video1.proofs.Frames.{Drawing}
use Rattle.video1.proofs.paint_frame.Given as goal

abbrev pub invariant-loop-k : goal.invariant-loop-k
invariant-loop-k l = Drawing l.columns l.rows l.s l.initial.pic l.pic l.at l.k l.below l.right

abbrev pub decreases-loop-k : goal.decreases-loop-k
decreases-loop-k l = length l.s - l.at

abbrev pub ghosts-paint_code : goal.ghosts-paint_code
ghosts-paint_code a = record { plan = block_plan a.columns a.rows a.s.now a.at a.k; few = λ _. few_stores (code_at a.s.now a.at) }
