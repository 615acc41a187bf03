-- What stands where a state is: refusals 16, 8, then "ended", 2, 3, 4, 5, in this order (document 01, "Numbers of refusal").
-- Assumes nothing.
use Rattle.std.specs.Prelude.{Bool, true, cond, List, ℕ, ◌+◌, ◌≤◌, eqb, length, ◌≡◌, Result, Ok, Err}
use Rattle.refusal.specs.declared.Refusal.{Refusal}
use Rattle.refusal.specs.Number.{Verdict, accept, refuse, number, block}
use Rattle.state.specs.declared.Cursor.{Cursor}
use Rattle.state.specs.declared.State.{State}
use Rattle.state.specs.State.{state_verdict, area, lent_verdict, map_inside}
use Rattle.sound.specs.Format.{chosen}
use Rattle.heads.specs.declared.Opcode.{Opcode}
use Rattle.heads.specs.Heads.{Head, chunk_at, opcode_at, taken_verdict}
use Rattle.heads.specs.Heads as heads
use Rattle.next.specs.declared.Next.{Next}
use Rattle.next.specs.declared.Next.TheVariants as found

-- a refusal by number and block, the film's end, a chunk's head or an opcode that is taken
pub data Standing : Type 0 where
  refused : ℕ → ℕ → Standing
  ended : Standing
  chunk : Cursor → Standing
  opcode : Opcode → Standing

-- document 01's values of each answer
abbrev pub next_as : Result Next Refusal → Standing
next_as (Err r) = refused (number r) (block r)
next_as (Ok found.Ended) = ended
next_as (Ok (found.Chunk c)) = chunk c
next_as (Ok (found.Opcode o)) = opcode o

-- on where a verdict accepts, else its refusal
unfoldable pub on : Verdict → Standing → Standing
on accept s = s
on (refuse n k) s = refused n k

unfoldable pub chunk_standing : Head Cursor → Standing
chunk_standing (heads.gives c) = chunk c
chunk_standing (heads.refused n k) = refused n k

-- hears: a stream of sound is chosen
unfoldable pub opcode_standing : Bool → Head Opcode → Standing
opcode_standing hears (heads.gives o) = on (taken_verdict hears o.kind o.version o.long) (opcode o)
opcode_standing hears (heads.refused n k) = refused n k

-- at a chunk's end: the film's end, or a chunk's head
unfoldable pub end_of_chunk : List ℕ → Cursor → Standing
end_of_chunk film c = cond (eqb c.chunk_end (length film)) ended (chunk_standing (chunk_at film c))

-- where a cursor is
unfoldable pub standing_at : Bool → List ℕ → Cursor → Standing
standing_at hears film c = cond (eqb c.position c.chunk_end) (end_of_chunk film c) (opcode_standing hears (opcode_at film c))

-- where a state is, with a palette and a shortest picture of the film's kind this long
unfoldable pub next_of : List ℕ → State → ℕ → ℕ → Standing
next_of film st palette shortest =
    on (state_verdict st (length film))
    (on (lent_verdict (area st.columns st.rows) palette shortest) (standing_at (chosen st.sound.stream) film st.cursor))

-- what is known of a state that 16 does not refuse
pub record Possible (st : State) (film : ℕ) : Type 0 where
  pub ordered : st.cursor.position ≤ st.cursor.chunk_end
  pub inside : st.cursor.chunk_end ≤ film
  pub mapped : map_inside st.map film ≡ true

-- what is known of an opcode that is taken where a cursor stands
pub record Ready (film : ℕ) (c : Cursor) (o : Opcode) : Type 0 where
  pub behind : c.position + 4 ≤ o.start
  pub within : o.start + o.long ≤ c.chunk_end
  pub inside : o.start + o.long ≤ film
  pub packet : o.kind ≡ 17 → 14 ≤ o.long
