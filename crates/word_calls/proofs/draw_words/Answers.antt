use mathlib.Core.Path.{◌∙◌}
use native.Mathlib.Omega.{arith}
use Rattle.std.proofs.lemmas.Result.{err_from_is_err_and}
use Rattle.packet.proofs.Strip.{found_accepted, found_refused}
use Rattle.packet.proofs.Sizes.{few}
use Rattle.draw.proofs.Called.{says_refused, says_made}
use Rattle.word_calls.proofs.Judged.{judged_words}
use Rattle.word_calls.proofs.draw_words.Goals as goal

pub returns-in_err-t : goal.returns-in_err-t
returns-in_err-t c =
    let s = says_refused _ _ _ _ (found_refused _ _ _ c.judge_words.ensures _ c.in_err-t.was) in
    let p = err_from_is_err_and c.from_residual.result c.from_residual.ensures.1 in
    record { place_after = s.0; result_value = rw (p.1, p.2) s.1 }

pub draw_word_packet-n-requires : goal.draw_word_packet-n-requires
draw_word_packet-n-requires c = (judged_words _ _ _ _ _ _ _ _ _ _ _ c.judge_words.ensures _ c.in_ok-t.was).1

pub overflow_mul-columns : goal.overflow_mul-columns
overflow_mul-columns c = omega (arith, few _ _ (judged_words _ _ _ _ _ _ _ _ _ _ _ c.judge_words.ensures _ c.in_ok-t.was).0)

pub returns : goal.returns
returns c = let a = found_accepted _ _ _ c.judge_words.ensures _ c.in_ok-t.was in let s = says_made _ _ _ _ _ _ c.draw_word_packet-n.ensures a.0 a.1 in record { place_after = s.0; result_value = c.answer_of.ensures ∙ s.1 }
