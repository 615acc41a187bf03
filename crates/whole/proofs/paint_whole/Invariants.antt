use Rattle.paint.specs.Value.{plan_of}
use Rattle.paint.proofs.Counts.{count_few}
use Rattle.whole.proofs.paint_whole.Given as goal

abbrev pub ghosts-paint_pixels : goal.ghosts-paint_pixels
ghosts-paint_pixels a = record { plan = plan_of a.code a.s.now a.front.now a.w a.x a.y; few = λ k. count_few _ }
