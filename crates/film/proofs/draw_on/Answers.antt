use mathlib.Core.Bool.{false}
use mathlib.Core.Path.{◌∙◌}
use native.Mathlib.Omega.{arith}
use Rattle.std.proofs.lemmas.Result.{err_from_is_err_and}
use Rattle.packet.proofs.Strip.{found_accepted, found_refused}
use Rattle.packet.proofs.Sizes.{few}
use Rattle.draw.proofs.Judged.{judged_call, either_verdict, either_accepted}
use Rattle.draw.proofs.Called.{says_made}
use Rattle.film.proofs.Steps.{drew_second, drew_first, refused_on}
use Rattle.film.proofs.draw_on.Goals as goal

pub returns-in_err-t : goal.returns-in_err-t
returns-in_err-t c = let p = err_from_is_err_and c.from_residual.result c.from_residual.ensures.1 in λ l. rw (p.1, p.2) (refused_on _ _ _ _ _ _ _ _ c.requires l _ _ (found_refused _ _ _ c.judge.ensures _ c.in_err-t.was))

pub draw_blocks-made-requires : goal.draw_blocks-made-requires
draw_blocks-made-requires c = (judged_call false _ _ _ _ _ _ _ _ _ _ _ c.judge.ensures _ c.in_ok-t.was).1

pub overflow_mul-columns : goal.overflow_mul-columns
overflow_mul-columns c = omega (arith, few _ _ (judged_call false _ _ _ _ _ _ _ _ _ _ _ c.judge.ensures _ c.in_ok-t.was).0)

pub returns-then-st-eq0 : goal.returns-then-st-eq0
returns-then-st-eq0 c = let v = found_accepted _ _ _ c.judge.ensures _ c.in_ok-t.was in let s = says_made _ _ _ _ _ _ c.draw_blocks-made.ensures v.0 v.1 in λ l. drew_second _ _ _ _ _ _ _ _ c.requires _ _ _ _ c.drawn_step.ensures l c.if-st-eq0.true (c.answer_of.ensures ∙ s.1) s.0

pub draw_blocks-made-requires-else-st-eq0 : goal.draw_blocks-made-requires-else-st-eq0
draw_blocks-made-requires-else-st-eq0 c = either_accepted _ _ _ _ (judged_call false _ _ _ _ _ _ _ _ _ _ _ c.judge.ensures _ c.in_ok-t.was).1

pub overflow_mul-columns-else-st-eq0 : goal.overflow_mul-columns-else-st-eq0
overflow_mul-columns-else-st-eq0 c = omega (arith, few _ _ (judged_call false _ _ _ _ _ _ _ _ _ _ _ c.judge.ensures _ c.in_ok-t.was).0)

pub returns-else-st-eq0 : goal.returns-else-st-eq0
returns-else-st-eq0 c = let v = found_accepted _ _ _ c.judge.ensures _ c.in_ok-t.was in let s = says_made _ _ _ _ _ _ c.draw_blocks-made-else-st-eq0.ensures (v.0 ∙ either_verdict _ _ _ _ _ _ _ _) v.1 in λ l. drew_first _ _ _ _ _ _ _ _ c.requires _ _ _ _ c.drawn_step-else-st-eq0.ensures l c.if-st-eq0.false (c.answer_of-else-st-eq0.ensures ∙ s.1) s.0
