-- The chunks of a film and their opcodes (document 02, W13): an opcode is refused 3, 4 or 5 as by a step that acts on sound, whatever the stream, and 0C and 0D are
-- refused 5 by their content. Of a chunk the first of these is its refusal.
-- Assumes nothing.
use Rattle.std.specs.Prelude.{Bool, true, false, cond, not, Result, Ok, Err, List, ℕ, zero, suc, ◌+◌, eqb, length}
use Rattle.refusal.specs.declared.Refusal.{Refusal}
use Rattle.refusal.specs.Number.{Verdict, accept, refuse, number}
use Rattle.parts.specs.Parts.{part}
use Rattle.palette.specs.Entries.{set_palette}
use Rattle.palette.specs.Mask.{set_palette_compressed}
use Rattle.state.specs.declared.Cursor.{Cursor}
use Rattle.state.specs.Moves.{cursor, cursor_behind}
use Rattle.heads.specs.declared.Opcode.{Opcode}
use Rattle.next.specs.Next.{Standing, refused, ended, chunk, opcode, standing_at}
use Rattle.chunks.specs.declared.Ahead.{Ahead}
use Rattle.chunks.specs.declared.Ahead.TheVariants.{FilmEnd, PastEnd, ChunkTo}

-- ---- one opcode

-- where its body ends
abbrev pub end_of : Opcode → ℕ
end_of o = o.start + o.long

-- the body of 0C and 0D has the length that its content asks for
unfoldable pub is_exact : ℕ → List ℕ → Bool
is_exact kind body = cond (eqb kind 12) (set_palette body).exact (cond (eqb kind 13) (set_palette_compressed body).exact true)

-- a judge of 0C or 0D that does not answer 5 found it so
unfoldable pub says_exact : Verdict → Bool
says_exact accept = true
says_exact (refuse n k) = not (eqb n 5)

unfoldable pub measured_opcode : List ℕ → Opcode → Standing
measured_opcode film o = cond (is_exact o.kind (part film o.start (end_of o))) (opcode o) (refused 5 0)

unfoldable pub measured : List ℕ → Standing → Standing
measured film (refused n k) = refused n k
measured film ended = ended
measured film (chunk c) = chunk c
measured film (opcode o) = measured_opcode film o

-- what stands at a cursor, with all tests of 3, 4 and 5
abbrev pub test_at : List ℕ → Cursor → Standing
test_at film c = measured film (standing_at true film c)

-- ---- the opcodes of a chunk

-- intact: all pass; whether 00 is among them. scratched: the refusal first met
pub data Condition : Type 0 where
  intact : Bool → Condition
  scratched : ℕ → Condition

-- on behind an opcode that passes, but 00 is the last of its chunk. Where there is one more opcode, neither the film's end nor a chunk's head stands there
unfoldable pub behind_opcode : Standing → (Opcode → Condition) → Condition
behind_opcode (refused n k) f = scratched n
behind_opcode ended f = intact false
behind_opcode (chunk c) f = intact false
behind_opcode (opcode o) f = cond (eqb o.kind 0) (intact true) (f o)

-- at most so many opcodes from a cursor to its chunk's end
unfoldable pub opcodes_from : ℕ → List ℕ → Cursor → Condition
opcodes_from zero film c = intact false
opcodes_from (suc n) film c = cond (eqb c.position c.chunk_end) (intact false) (behind_opcode (test_at film c) (λ o. opcodes_from n film (cursor_behind c (end_of o))))

-- all of them: there are no more than the film has bytes
abbrev pub condition_of : List ℕ → Cursor → Condition
condition_of film c = opcodes_from (suc (length film)) film c

-- ---- what stands at a chunk's end

-- the film's end; a chunk or its head that passes it (2); or a chunk, by its end and its condition
pub data Following : Type 0 where
  film_end : Following
  past_end : Following
  chunk_to : ℕ → Condition → Following

-- no opcode stands at a chunk's end
unfoldable pub following : List ℕ → Standing → Following
following film (refused n k) = past_end
following film ended = film_end
following film (chunk c) = chunk_to c.chunk_end (condition_of film c)
following film (opcode o) = past_end

abbrev pub following_at : List ℕ → ℕ → Following
following_at film e = following film (standing_at true film (cursor e e))

-- ---- the values of each answer

abbrev pub condition_as : Result Bool Refusal → Condition
condition_as (Ok b) = intact b
condition_as (Err r) = scratched (number r)

abbrev pub following_as : Ahead → Following
following_as FilmEnd = film_end
following_as PastEnd = past_end
following_as (ChunkTo x t) = chunk_to x (condition_as t)
