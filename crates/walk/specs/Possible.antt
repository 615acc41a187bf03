-- The states of a walk (`proofs/Possible.step_possible`): whatever the film, the state that came in, the allowance and what is lent, the state that a step
-- gives back is one that 16 accepts, and its stream of sound is the one that was chosen. So a host that hands back what a step gave never meets 16.
-- Assumes nothing.
use Rattle.std.specs.Prelude.{◌≡◌, ℕ}
use Rattle.refusal.specs.Number.{accept}
use Rattle.state.specs.declared.State.{State}
use Rattle.state.specs.State.{state_verdict}
use Rattle.opcodes.specs.Opcodes.{Answer, taken, whole, unfinished, ended, refused}

-- something holds of the state that an answer gives; a refusal gives none
unfoldable pub OfState : (State → Type 0) → Answer → Type 0
OfState P (taken s) = P s
OfState P (whole s) = P s
OfState P (unfinished s) = P s
OfState P (ended s) = P s
OfState P (refused n k) = Unit

-- a state that may come of another, in a film this long
pub record Follows (film : ℕ) (st next : State) : Type 0 where
  pub possible : state_verdict next film ≡ accept
  pub stream : next.sound.stream ≡ st.sound.stream
