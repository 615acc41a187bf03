use mathlib.Core.Path.{sym, ◌∙◌}
use Rattle.opcodes.specs.Opcodes.{stepped_as}
use Rattle.mve_states.proofs.States.{readable}
use Rattle.mve.proofs.Films.{short_out, step_told, unread_told}
use Rattle.mve.proofs.mve_step.Goals as goal

pub returns-then-out-lt-ANSWER : goal.returns-then-out-lt-ANSWER
returns-then-out-lt-ANSWER c = short_out _ _ _ _ c.if-out-lt-ANSWER.true

pub state_of-st-requires : goal.state_of-st-requires
state_of-st-requires c = record { from_len = (readable _ _ c.is_state.ensures c.if-is_state.true).0; from_bound = (readable _ _ c.is_state.ensures c.if-is_state.true).1 }

pub put_step-requires : goal.put_step-requires
put_step-requires c = record { in_bounds = c.if-out-lt-ANSWER.false; from_len = (readable _ _ c.is_state.ensures c.if-is_state.true).0 }

pub returns-then-is_state : goal.returns-then-is_state
returns-then-is_state c = step_told _ _ _ c.if-out-lt-ANSWER.false _ _ _ _ _ _ _ (stepped_as c.step-x.result) _ (sym c.is_state.ensures ∙ c.if-is_state.true) c.state_of-st.ensures c.spare_of.ensures c.step-x.ensures (c.put_step.ensures.value, c.put_step.ensures.out_after)

pub returns-else-is_state : goal.returns-else-is_state
returns-else-is_state c = unread_told _ _ _ c.if-out-lt-ANSWER.false _ _ _ _ _ (sym c.is_state.ensures ∙ c.if-is_state.false) (c.put_unread.ensures.value, c.put_unread.ensures.out_after)
