-- What a function of the step asks of its caller.
-- Assumes nothing.
use Rattle.std.specs.Prelude.{◌≡◌, true, List, ℕ, Option}
use Rattle.refusal.specs.Number.{accept}
use Rattle.packet.specs.Packet.{packet_in}
use Rattle.packet.specs.declared.Rows.{Rows}
use Rattle.packet.specs.Rows.{touched}
use Rattle.draw.specs.Call.{call_verdict_in}
use Rattle.state.specs.declared.State.{State}

-- a drawing call of a film with true colour is accepted, with pictures this long and this place, and its packet touches these rows
pub record Tested (st : State) (spare : ℕ) (map packet : List ℕ) (last oldest new place : ℕ) (t : Option Rows) : Type 0 where
  pub deep : st.deep ≡ true
  pub accepted : accept ≡ call_verdict_in true spare st.columns st.rows map packet last oldest new place
  pub rows : t ≡ touched (packet_in true st.columns st.rows map packet)
