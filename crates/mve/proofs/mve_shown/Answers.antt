use mathlib.Core.Path.{sym, ◌∙◌}
use Rattle.mve_states.proofs.States.{readable}
use Rattle.mve.proofs.Films.{shown_told, unread_shown}
use Rattle.mve.proofs.mve_shown.Goals as goal

pub state_of-requires : goal.state_of-requires
state_of-requires c = record { from_len = (readable _ _ c.is_state.ensures c.if-is_state.true).0; from_bound = (readable _ _ c.is_state.ensures c.if-is_state.true).1 }

pub returns-then-is_state : goal.returns-then-is_state
returns-then-is_state c = shown_told _ _ _ _ c.shown.result.now (sym c.is_state.ensures ∙ c.if-is_state.true) c.state_of.ensures c.shown.ensures

pub returns-else-is_state : goal.returns-else-is_state
returns-else-is_state c = unread_shown _ _ _ (sym c.is_state.ensures ∙ c.if-is_state.false)
