-- A step by what it does: every step is one of these ten (`proofs/View.view_of`), each with what stands where the state is, and with what comes of it. A proof
-- about every step has one clause for each.
-- Assumes nothing.
use Rattle.std.specs.Prelude.{◌≡◌, Bool, true, false, List, ℕ, ◌+◌, ◌-◌, ◌<◌, length, None}
use Rattle.refusal.specs.Number.{accept}
use Rattle.draw.specs.declared.Allowed.{Allowed}
use Rattle.palette.specs.Update.{Update}
use Rattle.palette.specs.Gradient.{create_gradient}
use Rattle.palette.specs.Entries.{set_palette}
use Rattle.palette.specs.Mask.{set_palette_compressed}
use Rattle.sound.specs.Format.{chosen}
use Rattle.state.specs.declared.Cursor.{Cursor}
use Rattle.state.specs.declared.State.{State}
use Rattle.state.specs.Moves.{into, mapped}
use Rattle.state.specs.State.{state_verdict, some_part}
use Rattle.heads.specs.declared.Opcode.{Opcode}
use Rattle.heads.specs.Heads.{hears}
use Rattle.next.specs.Next.{Ready}
use Rattle.next.specs.Next as found
use Rattle.opcodes.specs.Opcodes.{taken, ended, refused, quiet, quiet_answer}
use Rattle.film.specs.Film.{Lent, Outcome, stands_at, after, draw_on, part, update, map_to, hear}
use Rattle.walk.specs.Draws.{body_of, packet_of}

-- where the body of an opcode ends
abbrev pub end_of : Opcode → ℕ
end_of o = o.start + o.long

-- an opcode that is taken stands there, of a state that 16 accepts
pub record AtOpcode (film : List ℕ) (st : State) (l : Lent) (o : Opcode) : Type 0 where
  pub stands : stands_at film st l ≡ found.opcode o
  pub accepted : state_verdict st (length film) ≡ accept
  pub ready : Ready (length film) st.cursor o

-- it is one of sound, and a stream is chosen
abbrev pub as_sound : State → Opcode → Bool
as_sound st o = hears (chosen st.sound.stream) o.kind

-- the update of the palette that a body of this type asks for: 0B, 0C, 0D
pub data Colours (kind : ℕ) (body : List ℕ) : Update → Type 0 where
  gradient : kind ≡ 11 → Colours kind body (create_gradient body)
  entries : kind ≡ 12 → Colours kind body (set_palette body)
  masks : kind ≡ 13 → Colours kind body (set_palette_compressed body)

-- 9: no pending map, or no size
pub data Unmapped (st : State) : Type 0 where
  no_map : st.map ≡ None → Unmapped st
  no_size : st.columns ≡ 0 → Unmapped st

-- a type that is none of 0B, 0C, 0D, 0F and 11
pub record Other (kind : ℕ) : Type 0 where
  pub not_0b : kind ≡ 11 → ⊥
  pub not_0c : kind ≡ 12 → ⊥
  pub not_0d : kind ≡ 13 → ⊥
  pub not_0f : kind ≡ 15 → ⊥
  pub not_11 : kind ≡ 17 → ⊥

pub data View (film : List ℕ) (st : State) (allowed : Allowed) (l : Lent) : Outcome → Type 0 where
  -- 16, 8, 2 to 5
  refuses : (n k : ℕ) → stands_at film st l ≡ found.refused n k → View film st allowed l (after (quiet (refused n k)) l)
  ends : stands_at film st l ≡ found.ended → state_verdict st (length film) ≡ accept → View film st allowed l (after (quiet (ended st)) l)
  enters : (c : Cursor) → stands_at film st l ≡ found.chunk c → state_verdict st (length film) ≡ accept → View film st allowed l (after (quiet (taken (into st c))) l)
  -- 03, 08, 09, where a stream is chosen
  sounds : (o : Opcode) → AtOpcode film st l o → as_sound st o ≡ true → View film st allowed l (hear st o.kind o.version (body_of film o) (end_of o) l)
  -- 0F
  maps : (o : Opcode) → AtOpcode film st l o → as_sound st o ≡ false → o.kind ≡ 15
      → View film st allowed l (map_to st (mapped st (end_of o) (some_part o.start (end_of o - o.start))) allowed.stores l)
  -- 0B, 0C, 0D
  colours : (o : Opcode) (u : Update) → AtOpcode film st l o → as_sound st o ≡ false → Colours o.kind (body_of film o) u
      → View film st allowed l (update st (end_of o) u allowed.stores l)
  -- 11: refused by 5, in a film with true colour, or by 9, or a drawing call with the pending map
  too_short : (o : Opcode) → AtOpcode film st l o → as_sound st o ≡ false → o.kind ≡ 17 → st.deep ≡ true → length (body_of film o) < 16
      → View film st allowed l (after (quiet (refused 5 0)) l)
  undrawn : (o : Opcode) → AtOpcode film st l o → as_sound st o ≡ false → o.kind ≡ 17 → Unmapped st → View film st allowed l (after (quiet (refused 9 0)) l)
  draws : (o : Opcode) (start long : ℕ) → AtOpcode film st l o → as_sound st o ≡ false → o.kind ≡ 17 → st.map ≡ some_part start long → (st.columns ≡ 0 → ⊥)
      → View film st allowed l (draw_on st (end_of o) (part film start (start + long)) (packet_of film o) allowed l)
  -- every other opcode
  others : (o : Opcode) → AtOpcode film st l o → as_sound st o ≡ false → Other o.kind
      → View film st allowed l (after (quiet (quiet_answer (length film) st o.kind o.version (body_of film o) (end_of o))) l)
