-- Sound and drawing leave each other's memory alone (document 02, W5). A step at an opcode of sound that is acted on leaves palette, pictures and place
-- and makes no store; what it writes is no longer than the room, and behind it the room stays. Every other step leaves the room and writes no byte.
-- Assumes nothing.
use Rattle.std.specs.Prelude.{◌≡◌, true, List, ℕ, ◌≤◌, length, drop}
use Rattle.sound.specs.Format.{chosen}
use Rattle.draw.specs.declared.Allowed.{Allowed}
use Rattle.state.specs.declared.State.{State}
use Rattle.heads.specs.declared.Opcode.{Opcode}
use Rattle.heads.specs.Heads.{hears}
use Rattle.next.specs.Next.{opcode}
use Rattle.film.specs.Film.{Lent, with_room, Outcome, stands_at, step_of}

-- the room is as it was, and no byte was written
pub record RoomKept (l : Lent) (o : Outcome) : Type 0 where
  pub room : o.lent.room ≡ l.room
  pub bytes : o.step.bytes ≡ 0

-- all but the room is as it was, and no store was made; the bytes written fit, and behind them the room stays
pub record OthersKept (l : Lent) (o : Outcome) : Type 0 where
  pub others : with_room o.lent l.room ≡ l
  pub stores : o.step.stores ≡ 0
  pub fits : o.step.bytes ≤ length l.room
  pub rest : drop o.step.bytes o.lent.room ≡ drop o.step.bytes l.room

-- an opcode of sound that is acted on stands where the state is
pub record AtSound (film : List ℕ) (st : State) (l : Lent) : Type 0 where
  pub found : Opcode
  pub stands : stands_at film st l ≡ opcode found
  pub acted : hears (chosen st.sound.stream) found.kind ≡ true

pub record Apart (film : List ℕ) (st : State) (allowed : Allowed) (l : Lent) : Type 0 where
  pub sound : AtSound film st l → OthersKept l (step_of film st allowed l)
  pub other : (AtSound film st l → ⊥) → RoomKept l (step_of film st allowed l)
