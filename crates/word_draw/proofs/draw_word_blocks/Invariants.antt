use Rattle.word_draw.proofs.Words.{WordGoing}
use Rattle.word_draw.proofs.draw_word_blocks.Given as goal

abbrev pub invariant-loop-k : goal.invariant-loop-k
invariant-loop-k l = WordGoing l.columns l.rows l.map l.data l.offsets l.last l.oldest l.initial.new l.initial.place l.allowed l.new l.place l.k l.at l.aside l.left l.x l.y
