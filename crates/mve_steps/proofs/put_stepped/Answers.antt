use Rattle.mve_answers.specs.Answer.{of_rows}
use Rattle.mve_states.specs.State.{of_state}
use Rattle.mve_steps.proofs.Steps.{answer_put}
use mathlib.Core.Path.{refl}
use Rattle.mve_states.proofs.States.{state_length}
use Rattle.mve_steps.proofs.put_stepped.Goals as goal

pub returns : goal.returns
returns c = let a = c.args in record { value = refl; out_after = answer_put a.out.now a.kind 0 0 a.stores a.bytes (of_rows a.t) (of_state a.st) c.requires (state_length a.st) c.put_answer.ensures c.put_rows.ensures c.put_state.ensures }
