-- Judged whole before the first store: what is taken fits. Each way out is a law of `Outcome`.
use Rattle.std.proofs.lemmas.Result.{err_from_is_err_and}
use Rattle.palette.proofs.Outcome.{keeps, stores_some}
use Rattle.palette.proofs.create_gradient.Goals as goal

pub returns-in_err-judge_gradient : goal.returns-in_err-judge_gradient
returns-in_err-judge_gradient c =
    let o = keeps _ c.args.allowed _ _ c.in_err-judge_gradient.ensures in
    let p = err_from_is_err_and c.from_residual.result c.from_residual.ensures.1 in
    record { result_value = rw (p.1, p.2) o.0; palette_after = o.1 }

pub returns : goal.returns
returns c =
    let o = stores_some _ _ _ c.in_ok-judge_gradient.ensures _ c.put_gradients-due.ensures.palette_after _ c.put_gradients-due.ensures.value _ c.changed_of.ensures in
    record { result_value = o.0; palette_after = o.1 }
