use Rattle.mve_answers.specs.Answer.{of_rows}
use Rattle.mve_steps.proofs.Steps.{answer_put}
use mathlib.Core.Path.{refl}
use Rattle.mve_steps.proofs.put_kept.Goals as goal

pub returns : goal.returns
returns c = let a = c.args in record { value = refl; out_after = answer_put a.out.now a.kind 0 0 a.stores 0 (of_rows a.t) a.from.now c.requires.in_bounds c.requires.from_len c.put_answer.ensures c.put_rows.ensures c.put_numbers.ensures }
