use Rattle.mve_answers.specs.Answer.{of_rows}
use Rattle.refusal.specs.Number.{number, block}
use Rattle.std.specs.Prelude.{None}
use Rattle.mve_steps.proofs.Steps.{state_put}
use mathlib.Core.Path.{refl}
use Rattle.mve_steps.proofs.put_refused.Goals as goal

pub returns : goal.returns
returns c = let a = c.args in record { value = refl; out_after = state_put a.out.now 4 (number a.r) (block a.r) 0 0 (of_rows None) a.from.now c.requires.in_bounds c.requires.from_len c.put_refusal.ensures c.put_numbers.ensures }
