use mathlib.Core.Path.{◌∙◌}
use native.Mathlib.Omega.{arith}
use Rattle.draw.proofs.Called.{says_made}
use Rattle.film.proofs.Steps.{next_verdict, third_verdict, accepted_words, few_words, drew_0, drew_1, drew_2}
use Rattle.film.proofs.draw_new.Goals as goal

pub draw_word_packet-made-requires : goal.draw_word_packet-made-requires
draw_word_packet-made-requires c = accepted_words _ _ _ _ _ _ _ _ _ c.requires.accepted

pub overflow_mul-columns : goal.overflow_mul-columns
overflow_mul-columns c = omega (arith, few_words _ _ _ _ _ _ _ _ _ c.requires.accepted)

pub returns-then-st-eq0 : goal.returns-then-st-eq0
returns-then-st-eq0 c = let s = says_made _ _ _ _ _ _ c.draw_word_packet-made.ensures c.requires.accepted c.requires.rows in λ l. drew_1 _ _ _ _ _ _ _ _ _ c.requires.deep _ _ _ _ c.drawn_step.ensures l c.if-st-eq0.true (c.answer_of.ensures ∙ s.1) s.0

pub draw_word_packet-made-requires-then-st-eq1 : goal.draw_word_packet-made-requires-then-st-eq1
draw_word_packet-made-requires-then-st-eq1 c = accepted_words _ _ _ _ _ _ _ _ _ (c.requires.accepted ∙ third_verdict _ _ _ _ _ _ _ _ _)

pub overflow_mul-columns-then-st-eq1 : goal.overflow_mul-columns-then-st-eq1
overflow_mul-columns-then-st-eq1 c = omega (arith, few_words _ _ _ _ _ _ _ _ _ c.requires.accepted)

pub returns-then-st-eq1 : goal.returns-then-st-eq1
returns-then-st-eq1 c = let s = says_made _ _ _ _ _ _ c.draw_word_packet-made-then-st-eq1.ensures (c.requires.accepted ∙ third_verdict _ _ _ _ _ _ _ _ _) c.requires.rows in λ l. drew_2 _ _ _ _ _ _ _ _ _ c.requires.deep _ _ _ _ c.drawn_step-then-st-eq1.ensures l c.if-st-eq1.true (c.answer_of-then-st-eq1.ensures ∙ s.1) s.0

pub draw_word_packet-made-requires-else-st-eq1 : goal.draw_word_packet-made-requires-else-st-eq1
draw_word_packet-made-requires-else-st-eq1 c = accepted_words _ _ _ _ _ _ _ _ _ (c.requires.accepted ∙ next_verdict _ _ _ _ _ _ _ _ _)

pub overflow_mul-columns-else-st-eq1 : goal.overflow_mul-columns-else-st-eq1
overflow_mul-columns-else-st-eq1 c = omega (arith, few_words _ _ _ _ _ _ _ _ _ c.requires.accepted)

pub returns-else-st-eq1 : goal.returns-else-st-eq1
returns-else-st-eq1 c = let s = says_made _ _ _ _ _ _ c.draw_word_packet-made-else-st-eq1.ensures (c.requires.accepted ∙ next_verdict _ _ _ _ _ _ _ _ _) c.requires.rows in λ l. drew_0 _ _ _ _ _ _ _ _ _ c.requires.deep _ _ _ _ c.drawn_step-else-st-eq1.ensures l c.if-st-eq0.false c.if-st-eq1.false (c.answer_of-else-st-eq1.ensures ∙ s.1) s.0
