-- Which films, states and lent memory lead to a drawing that is not refused: a step at opcode 11 answers "whole" or "unfinished" exactly when this holds
-- (`proofs/Draws`), whatever number of stores it is allowed, by the bytes that may be left over.
-- Assumes nothing.
use Rattle.std.specs.Prelude.{◌≡◌, List, ℕ, ◌+◌, ◌≤◌, length}
use Rattle.packet.specs.Packet.{packet_in, blocks}
use Rattle.packet.specs.Accepted.{AcceptsIn}
use Rattle.state.specs.declared.State.{State}
use Rattle.state.specs.State.{some_part}
use Rattle.heads.specs.declared.Opcode.{Opcode}
use Rattle.next.specs.Next.{opcode}
use Rattle.opcodes.specs.Opcodes.{Answer, taken, whole, unfinished, ended, refused}
use Rattle.film.specs.Film.{Lent, stands_at, part}

-- the body of an opcode
abbrev pub body_of : List ℕ → Opcode → List ℕ
body_of film o = part film o.start (o.start + o.long)

-- the packet of an opcode 11: what remains of its body behind the 14 bytes in front
abbrev pub packet_of : List ℕ → Opcode → List ℕ
packet_of film o = part (body_of film o) 14 (length (body_of film o))

-- opcode 11 stands where the state is, and none of 16, 8 and 2 to 5 is met; a map is pending; the packet, by whether the film has true colour, is accepted with this
-- map and the state's size, which is a legal one; and the place is at most the block count
pub record Draws (spare : ℕ) (film : List ℕ) (st : State) (l : Lent) : Type 0 where
  pub found : Opcode
  pub stands : stands_at film st l ≡ opcode found
  pub is_11 : found.kind ≡ 17
  pub start : ℕ
  pub long : ℕ
  pub mapped : st.map ≡ some_part start long
  pub accepted : AcceptsIn st.deep spare st.columns st.rows (part film start (start + long)) (packet_of film found)
  pub within : l.place ≤ blocks (packet_in st.deep st.columns st.rows (part film start (start + long)) (packet_of film found))

-- opcode 11 stands where the state is
pub record AtPacket (film : List ℕ) (st : State) (l : Lent) : Type 0 where
  pub found : Opcode
  pub stands : stands_at film st l ≡ opcode found
  pub is_11 : found.kind ≡ 17

-- an answer of a drawing that is not refused. (0B, 0C, 0D and 0F may be unfinished, too.)
unfoldable pub Drew : Answer → Type 0
Drew (taken s) = ⊥
Drew (whole s) = Unit
Drew (unfinished s) = Unit
Drew (ended s) = ⊥
Drew (refused n k) = ⊥
