use mathlib.Core.Path.{sym}
use native.Mathlib.Omega.{arith}
use Rattle.std.proofs.lemmas.Result.{err_from_is_err_and}
use Rattle.packet.proofs.Strip.{found_accepted, found_refused}
use Rattle.draw.proofs.Judged.{accepted_call}
use Rattle.origin.proofs.Answers.{refused_as, right_of, below_of, traceable, found_as}
use Rattle.origin.proofs.trace.Goals as goal

pub returns-in_err-inspect : goal.returns-in_err-inspect
returns-in_err-inspect c = let p = err_from_is_err_and c.from_residual.result c.from_residual.ensures.1 in rw (p.1, p.2) (refused_as _ _ _ _ _ _ _ _ _ _ (found_refused _ _ _ c.inspect.ensures _ c.in_err-inspect.was))

pub overflow_mul-columns : goal.overflow_mul-columns
overflow_mul-columns c = omega (arith, (accepted_call _ _ _ _ _ _ _ _ _ _ (sym (found_accepted _ _ _ c.inspect.ensures _ c.in_ok-inspect.was).0)).1.sized)

pub returns-then-columns-x : goal.returns-then-columns-x
returns-then-columns-x c = right_of _ _ _ _ _ _ _ _ (found_accepted _ _ _ c.inspect.ensures _ c.in_ok-inspect.was).0 c.if-columns-x.true

pub overflow_mul-rows : goal.overflow_mul-rows
overflow_mul-rows c = omega (arith, (accepted_call _ _ _ _ _ _ _ _ _ _ (sym (found_accepted _ _ _ c.inspect.ensures _ c.in_ok-inspect.was).0)).1.sized)

pub returns-then-rows-y : goal.returns-then-rows-y
returns-then-rows-y c = below_of _ _ _ _ _ _ _ _ (found_accepted _ _ _ c.inspect.ensures _ c.in_ok-inspect.was).0 c.if-columns-x.false c.if-rows-y.true

pub trace_inside-requires : goal.trace_inside-requires
trace_inside-requires c = traceable _ _ _ _ _ _ _ _ (found_accepted _ _ _ c.inspect.ensures _ c.in_ok-inspect.was).0 c.if-columns-x.false c.if-rows-y.false

pub returns : goal.returns
returns c = found_as _ _ _ _ _ _ _ _ (found_accepted _ _ _ c.inspect.ensures _ c.in_ok-inspect.was).0 c.if-columns-x.false c.if-rows-y.false _ c.trace_inside.ensures
