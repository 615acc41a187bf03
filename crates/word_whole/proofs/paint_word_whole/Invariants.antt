use Rattle.paint.specs.Value.{word_plan}
use Rattle.paint.proofs.Counts.{count_few}
use Rattle.word_whole.proofs.paint_word_whole.Given as goal

abbrev pub ghosts-paint_pixels : goal.ghosts-paint_pixels
ghosts-paint_pixels a = record { plan = word_plan a.code a.s.now a.o.now a.last.now a.oldest.now a.w a.x a.y; few = λ k. count_few _ }
