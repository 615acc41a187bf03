use Rattle.paint.specs.Value.{plan_of}
use Rattle.paint.proofs.Counts.{count_few}
use Rattle.whole.proofs.paint_and_pass.Given as goal

abbrev pub ghosts-paint_block : goal.ghosts-paint_block
ghosts-paint_block a = record { plan = plan_of a.code a.s.now a.front.now a.w a.x a.y; few = λ k. count_few _ }
