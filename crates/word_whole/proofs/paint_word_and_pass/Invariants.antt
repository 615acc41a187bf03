use Rattle.paint.specs.Value.{word_plan}
use Rattle.paint.proofs.Counts.{count_few}
use Rattle.word_whole.proofs.paint_word_and_pass.Given as goal

abbrev pub ghosts-paint_block : goal.ghosts-paint_block
ghosts-paint_block a = record { plan = word_plan a.code a.s.now a.o.now a.last.now a.oldest.now a.w a.x a.y; few = λ k. count_few _ }
