use Rattle.paint.specs.Value.{plan_of}
use Rattle.paint.proofs.Counts.{count_few}
use Rattle.paint.proofs.paint_part.Given as goal

abbrev pub ghosts-first_part : goal.ghosts-first_part
ghosts-first_part a = record { plan = plan_of a.code a.s.now a.last.now a.w a.x a.y; few = λ k. count_few _ }
