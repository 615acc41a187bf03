use Rattle.std.proofs.lemmas.Result.{err_from_is_err_and}
use Rattle.packet.proofs.Strip.{found_accepted, found_refused}
use Rattle.film.proofs.Steps.{refused_words}
use Rattle.film.proofs.draw_words_on.Goals as goal

pub returns-in_err-t : goal.returns-in_err-t
returns-in_err-t c = let p = err_from_is_err_and c.from_residual.result c.from_residual.ensures.1 in λ l. rw (p.1, p.2) (refused_words _ _ _ _ _ _ _ _ _ c.requires l _ _ (found_refused _ _ _ c.judge_words.ensures _ c.in_err-t.was))

pub draw_new-requires : goal.draw_new-requires
draw_new-requires c = let v = found_accepted _ _ _ c.judge_words.ensures _ c.in_ok-t.was in record { deep = c.requires; accepted = v.0; rows = v.1 }
