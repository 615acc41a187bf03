use Rattle.paint.specs.Value.{word_plan}
use Rattle.paint.proofs.Counts.{count_few}
use Rattle.paint.proofs.paint_word_part.Given as goal

abbrev pub ghosts-first_part : goal.ghosts-first_part
ghosts-first_part a = record { plan = word_plan a.code a.s.now a.o.now a.last.now a.oldest.now a.w a.x a.y; few = λ k. count_few _ }
