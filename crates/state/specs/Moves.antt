-- The moves of a cursor and of a state over a film (document 01, "Film, chunks, opcodes"): what comes back of a step that is not refused.
-- Assumes nothing.
use Rattle.std.specs.Prelude.{Bool, true, false, cond, ℕ, ◌+◌, eqb, Option, None}
use Rattle.state.specs.declared.Cursor.{Cursor}
use Rattle.state.specs.declared.Part.{Part}
use Rattle.sound.specs.declared.Sound.{Sound}
use Rattle.state.specs.declared.State.{State}

-- ---- cursors

abbrev pub cursor : ℕ → ℕ → Cursor
cursor position end = record { position = position; chunk_end = end }

-- behind an opcode whose body ends at p, in the same chunk
unfoldable pub cursor_behind : Cursor → ℕ → Cursor
cursor_behind c p = cursor p c.chunk_end

-- into a chunk: its head of 4 bytes stands at the chunk's end, its body of this length behind the head
unfoldable pub cursor_into : Cursor → ℕ → Cursor
cursor_into c long = cursor (c.chunk_end + 4) (c.chunk_end + 4 + long)

-- at the end of a film this long
unfoldable pub cursor_at_end : Cursor → ℕ → Cursor
cursor_at_end c film = cursor film film

-- ---- states

-- with another cursor, and all else as it was
unfoldable pub at : State → Cursor → State
at st c = record st { cursor = c }

-- behind an opcode
abbrev pub behind : State → ℕ → State
behind st p = at st (cursor_behind st.cursor p)

-- into the chunk whose head gave this cursor
abbrev pub into : State → Cursor → State
into st chunk = at st chunk

-- 00: position and chunk end are the film's length
abbrev pub at_end : State → ℕ → State
at_end st film = at st (cursor_at_end st.cursor film)

-- 05: with a size, and whether with true colour
unfoldable pub sized : State → ℕ → ℕ → ℕ → Bool → State
sized st p columns rows deep = record st { cursor = cursor_behind st.cursor p; columns = columns; rows = rows; deep = deep }

-- if a frame is finished and unsent, front and back change roles, or, with true colour, front becomes the next of three; otherwise nothing does
unfoldable pub shown_next : Bool → Bool → ℕ → ℕ
shown_next deep unsent front = cond unsent (cond (eqb front 0) 1 (cond deep (cond (eqb front 1) 2 0) 0)) front

-- 07: nothing is then unsent
unfoldable pub sent : State → ℕ → State
sent st p = record st { cursor = cursor_behind st.cursor p; front = shown_next st.deep st.unsent st.front; unsent = false }

-- 0F: with this pending map
unfoldable pub mapped : State → ℕ → Option Part → State
mapped st p map = record st { cursor = cursor_behind st.cursor p; map = map }

-- 03, 08, 09 where a stream is chosen: with the sound that comes of them
unfoldable pub heard : State → ℕ → Sound → State
heard st p sound = record st { cursor = cursor_behind st.cursor p; sound = sound }

-- 11, drawn whole: the map is used up, and a frame is finished and unsent
unfoldable pub finished : State → ℕ → State
finished st p = record st { cursor = cursor_behind st.cursor p; map = None; unsent = true }
