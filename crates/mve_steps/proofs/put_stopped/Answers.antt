use Rattle.mve_answers.specs.Answer.{of_rows}
use Rattle.refusal.specs.Number.{number, block}
use Rattle.std.specs.Prelude.{None}
use Rattle.mve_states.specs.State.{of_state}
use Rattle.mve_steps.proofs.Steps.{state_put}
use mathlib.Core.Path.{refl}
use Rattle.mve_states.proofs.States.{state_length}
use Rattle.mve_steps.proofs.put_stopped.Goals as goal

pub returns : goal.returns
returns c = let a = c.args in record { value = refl; out_after = state_put a.out.now 4 (number a.r) (block a.r) 0 0 (of_rows None) (of_state a.st) c.requires (state_length a.st) c.put_refusal.ensures c.put_state.ensures }
